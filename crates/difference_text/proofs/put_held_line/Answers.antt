-- `put_held_line` meets its contract: with or without the value. Assumes nothing.
use Rattle.text.proofs.PutLaws.{puts-same, puts-append}
use Rattle.difference_text.proofs.LineLaws.{held-hidden, held-told}
use Rattle.difference_text.proofs.put_held_line.Goals as goal

pub returns-then-secret : goal.returns-then-secret
returns-then-secret c =
    puts-same (puts-append c.put_hidden_name-end.ensures c.put_only_in.ensures) (held-hidden _ _ _ _ c.if-secret.true)

pub returns : goal.returns
returns c =
    puts-same (puts-append c.put_with_value-end.ensures c.put_only_in-2.ensures) (held-told _ _ _ _ c.if-secret.false)
