-- `put_dotted` meets its contract. Assumes nothing.
use Rattle.text.proofs.PutLaws.{puts-same, puts-append}
use Rattle.record_text.proofs.FieldsLaws.{dotted-none, dotted-some}
use Rattle.record_text.proofs.fields.put_dotted.Goals as goal

pub returns-then-word-eq0 : goal.returns-then-word-eq0
returns-then-word-eq0 c =
    puts-same c.put_text.ensures (dotted-none _ _ c.word_at-word.ensures c.if-word-eq0.true)

pub returns : goal.returns
returns c =
    puts-same (puts-append c.put_char-place.ensures c.put_text-2.ensures)
    (dotted-some _ _ c.word_at-word.ensures c.if-word-eq0.false)
