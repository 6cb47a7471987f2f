-- `is_tail` meets its contract: it compares the agreement with the length, as the definition does. Assumes nothing.
use mathlib.Core.Path.{ap}
use Prim.Native.Nat.{ℕ}
use lib.Dec.{eqb}
use lib.ListN.{length}
use Rattle.string_heap.specs.Tails.{is_tail}
use Rattle.string_heap.proofs.tail.is_tail.Goals as goal

pub returns : goal.returns
unfolding is_tail
returns c = ap (λ (n : ℕ). eqb n (length c.args.a.now)) c.common_tail.ensures
