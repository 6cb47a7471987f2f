-- `put_only_in` meets its contract: the words of either table. Assumes nothing.
use mathlib.Core.Path.{sym, ap}
use mathlib.Core.Bool.{Bool, cond}
use Rattle.octets.specs.Counting.{tabulate}
use Rattle.text.proofs.PutLaws.{puts-same}
use Rattle.difference_text.specs.DifferenceText.{only_left, only_right, only_in}
use Rattle.difference_text.proofs.put_only_in.Goals as goal

pub returns-then-right : goal.returns-then-right
unfolding only_in tabulate
returns-then-right c =
    puts-same c.put_text.ensures (sym (ap (λ (b : Bool). cond b only_right only_left) c.if-right.true))

pub returns : goal.returns
unfolding only_in tabulate
returns c =
    puts-same c.put_text-2.ensures (sym (ap (λ (b : Bool). cond b only_right only_left) c.if-right.false))
