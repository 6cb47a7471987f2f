-- `slot_limit` meets its contract: the extra NICs end it where there is no extra target. Assumes nothing.
use native.Mathlib.Omega.{arith}
use Rattle.ibft_record.proofs.RecordLaws.{limit-nics, limit-targets}
use Rattle.ibft_record.proofs.record.slot_limit.Goals as goal

pub returns-then-targets_given-eq0 : goal.returns-then-targets_given-eq0
returns-then-targets_given-eq0 c = (omega (arith, limit-nics c.args.range.now (omega arith)), omega arith)

pub returns : goal.returns
returns c = (omega (arith, limit-targets c.args.range.now (λ e. omega arith)), omega arith)
