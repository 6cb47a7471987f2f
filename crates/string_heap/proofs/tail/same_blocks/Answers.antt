-- `same_blocks` meets its contract: the blocks passed are the same, and the one that ends the count differs. Assumes nothing.
use native.Mathlib.Omega.{arith}
use Rattle.string_heap.proofs.SameLaws.{same_more}
use Rattle.string_heap.proofs.tail.same_blocks.Goals as goal

pub loop-k-preserved : goal.loop-k-preserved
loop-k-preserved c =
    let a = c.args in
    let p = c.requires in
    let l = c.loop-k in (
      omega arith,
      same_more a.a.now a.b.now l.k a.size (omega (arith, p.0)) (omega (arith, p.1)) l.invariant.1
          (c.same_block.ensures.the_same c.if-not-same_block.false),
    )

pub returns-then-not-same_block : goal.returns-then-not-same_block
returns-then-not-same_block c =
    let l = c.loop-k in
    (l.invariant.0, l.invariant.1, λ h. c.same_block.ensures.not_the_same c.if-not-same_block.true)

pub returns : goal.returns
returns c =
    let l = c.loop-k in
    (l.invariant.0, l.invariant.1, λ h same. absurd (omega arith))
