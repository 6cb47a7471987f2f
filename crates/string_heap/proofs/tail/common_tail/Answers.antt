-- `common_tail` meets its contract: each count goes on from the one before, and the last one is ended by a byte. Assumes
-- nothing.
use native.Mathlib.Omega.{arith}
use Rattle.string_heap.proofs.SameLaws.{agree-blocks}
use Rattle.string_heap.proofs.tail.common_tail.Goals as goal

pub returns : goal.returns
returns c = let k = c.same_blocks.ensures in agree-blocks _ _ _ (omega arith) k.1 (λ h. k.2 (omega arith))
