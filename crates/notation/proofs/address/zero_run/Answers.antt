-- `zero_run` meets its contract: the groups passed are zero. Assumes nothing.
use Rattle.std.proofs.Common.{◌+◌, refl, arith, below_more}
use Rattle.octets.proofs.TestLaws.{same_differs}
use Rattle.notation.specs.Address.{group_at}
use Rattle.notation.proofs.AddressPutLaws.{run_ends, run-whole}
use Rattle.notation.proofs.address.zero_run.Goals as goal

pub returns-then-group_at-ne0 : goal.returns-then-group_at-ne0
returns-then-group_at-ne0 c =
    let l = c.loop-j in
    let a = c.args in
    run_ends a.a.now a.k a.n l.j l.invariant (omega arith) (λ e. omega (arith, c.group_at.ensures))

pub loop-j-preserved : goal.loop-j-preserved
loop-j-preserved c =
    let l = c.loop-j in
    let a = c.args in
    below_more _ _ l.invariant (same_differs (group_at a.a.now (a.k + l.j)) 0 (omega (arith, c.group_at.ensures)))

pub returns : goal.returns
returns c =
    let a = c.args in
    run-whole a.a.now a.k a.n a.n (λ i h. c.loop-j.invariant i (omega arith)) refl
