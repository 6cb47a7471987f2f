-- `only_one` meets its contract, by cases of the two. Assumes nothing.
use Rattle.std.proofs.Common.{◌≡◌, refl, true, false, not}
use mathlib.Core.Bool.{Bool, beq}
use Rattle.ibft_compare.specs.Walk.{only_one}
use Rattle.ibft_compare.proofs.unequal.only_one.Goals as goal

unlike : (a b : Bool) → not (beq a b) ≡ only_one a b
unfolding only_one
unlike true true = refl
unlike true false = refl
unlike false true = refl
unlike false false = refl

pub returns : goal.returns
returns c = unlike c.args.a c.args.b
