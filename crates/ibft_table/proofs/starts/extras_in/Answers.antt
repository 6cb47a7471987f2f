-- `extras_in` meets its contract: those passed are counted. Assumes nothing.
use Rattle.std.proofs.Common.{ℕ, ◌+◌, ap, arith}
use Rattle.octets.specs.Octets.{differs}
use Rattle.ibft_table.proofs.SeatLaws.{count-start, count-next, count-one}
use Rattle.ibft_table.specs.Table.{present_in}
use Rattle.ibft_table.proofs.starts.extras_in.Goals as goal

pub loop-i-init : goal.loop-i-init
loop-i-init c = (omega arith, count-start _)

pub loop-i-preserved : goal.loop-i-preserved
unfolding present_in
loop-i-preserved c =
    let l = c.loop-i in
    let a = c.args in (
      omega (arith, count-one (differs c.start_in.result 0)),
      count-next (λ (j : ℕ). present_in a.starts.now (a.first + j)) l.i _ _ _ l.invariant.1
          (ap (λ (x : ℕ). differs x 0) c.start_in.ensures) c.from-n.ensures,
    )
