use Rattle.std.proofs.Common.{arith}
use Rattle.octets.proofs.SumLaws.{sum_step, sum-end}
use Rattle.octets.proofs.sum.sum_of.Goals as goal

pub loop-b-preserved : goal.loop-b-preserved
loop-b-preserved c = omega (arith, sum_step c.args.s.now c.loop-b.b-index (omega arith))

pub returns : goal.returns
returns c = omega (arith, sum-end c.args.s.now c.loop-b.b-index (omega arith))
