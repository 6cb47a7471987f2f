-- `put_word` meets its contract: the word, or a space and the word behind it. Assumes nothing.
use Rattle.text.proofs.PutLaws.{puts-append}
use Rattle.text.proofs.words.put_word.Goals as goal

pub returns-then-first : goal.returns-then-first
returns-then-first c =
    rw c.if-first.true c.put_text.ensures

pub returns : goal.returns
returns c =
    rw c.if-first.false
    (puts-append c.put_char-behind.ensures c.put_text-2.ensures)
