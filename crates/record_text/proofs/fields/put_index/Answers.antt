-- `put_index` meets its contract. Assumes nothing.
use Rattle.text.proofs.PutLaws.{puts-same}
use Rattle.record_text.proofs.FieldsLaws.{index-put-none, index-put}
use Rattle.record_text.proofs.fields.put_index.Goals as goal

pub returns-then-kind-lt-FIRST_INDEXED : goal.returns-then-kind-lt-FIRST_INDEXED
returns-then-kind-lt-FIRST_INDEXED c =
    puts-same c.put_text.ensures (index-put-none _ _ c.if-kind-lt-FIRST_INDEXED.true)

pub returns : goal.returns
returns c =
    puts-same c.put_decimal.ensures (index-put _ _ c.if-kind-lt-FIRST_INDEXED.false)
