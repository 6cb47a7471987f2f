-- `same_block` meets its contract: the difference so far is 0 exactly where the bytes passed are the same. Assumes nothing.
use Rattle.std.proofs.Common.{arith, below_more}
use Rattle.string_heap.proofs.SameLaws.{differ-none, differ-zero}
use Rattle.string_heap.proofs.tail.same_block.Goals as goal

pub loop-k-preserved : goal.loop-k-preserved
loop-k-preserved c =
    let l = c.loop-k in
    record {
      same = λ e. let both = differ-none _ _ _ e in below_more _ _ (l.invariant.same both.0) both.1;
      none = λ same. differ-zero _ _ _ (l.invariant.none (λ k h. same k (omega arith))) (same l.k (omega arith));
    }
