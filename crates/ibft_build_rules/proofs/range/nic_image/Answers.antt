-- `nic_image` meets its contract: what stands before it takes 421 bytes, and each extra NIC 103. Assumes nothing.
use native.Mathlib.Omega.{arith}
use Rattle.ibft_build_rules.specs.RecordRange.{nic_image}
use Rattle.ibft_build_rules.proofs.range.nic_image.Goals as goal

pub returns : goal.returns
unfolding nic_image
returns c = (omega arith, omega arith)
