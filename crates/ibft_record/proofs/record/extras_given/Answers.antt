-- `extras_given` meets its contract: those of each kind that are in use. Assumes nothing.
use mathlib.Core.Path.{◌∙◌, ap₂}
use Prim.Native.Nat.{◌+◌}
use native.Mathlib.Omega.{arith}
use Rattle.ibft_record.proofs.RecordLaws.{extras-are}
use Rattle.ibft_record.proofs.record.extras_given.Goals as goal

pub returns : goal.returns
returns c = (ap₂ ◌+◌ c.extra_nics.ensures.0 c.extra_targets.ensures.0 ∙ extras-are _, omega arith)
