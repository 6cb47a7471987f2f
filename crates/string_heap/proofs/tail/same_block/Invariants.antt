use Rattle.std.proofs.Common.{◌≡◌}
use Rattle.string_heap.specs.Same.{SameFrom}
use Rattle.string_heap.proofs.tail.same_block.Given as goal

abbrev pub invariant-loop-k : goal.invariant-loop-k
invariant-loop-k l =
    record {
      same : l.difference ≡ 0 → SameFrom l.a l.i l.b l.j l.k;
      none : SameFrom l.a l.i l.b l.j l.k → l.difference ≡ 0;
    }
