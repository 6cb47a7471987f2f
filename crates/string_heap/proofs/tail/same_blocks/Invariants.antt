use Prim.Native.Nat.{◌-◌, ◌≤◌}
use Rattle.string_heap.specs.Same.{SameBack}
use Rattle.string_heap.proofs.tail.same_blocks.Given as goal

abbrev pub invariant-loop-k : goal.invariant-loop-k
invariant-loop-k l = (l.k ≤ l.most) × SameBack l.a l.b l.k

abbrev pub decreases-loop-k : goal.decreases-loop-k
decreases-loop-k l = l.most - l.k
