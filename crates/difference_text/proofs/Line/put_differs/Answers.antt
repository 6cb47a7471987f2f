-- `Line::put_differs` meets its contract: the words in place of a secret, or both values and the bytes shown. Assumes nothing.
use Rattle.octets.specs.Counting.{tabulate}
use Rattle.text.proofs.PutLaws.{puts-same, puts-append}
use Rattle.difference_text.proofs.LineLaws.{differs-hidden, differs-told}
use Rattle.difference_text.proofs.Line.put_differs.Goals as goal

pub returns-then-secret : goal.returns-then-secret
unfolding tabulate
returns-then-secret c =
    puts-same (puts-append c.put_hidden_name-words.ensures c.put_text.ensures) (differs-hidden _ _ _ _ _ c.if-secret.true)

pub returns : goal.returns
returns c =
    puts-same (puts-append c.put_both_values-end.ensures c.put_shown.ensures)
    (differs-told _ _ _ _ _ c.if-secret.false _ _ _ _ c.in_left.ensures c.in_right.ensures
    c.shown.ensures c.saturating_sub-n.ensures)
