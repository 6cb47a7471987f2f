-- `target_image` meets its contract: behind the extra NICs each extra target takes 59 bytes. Assumes nothing.
use native.Mathlib.Omega.{arith}
use Rattle.ibft_build_rules.specs.RecordRange.{nic_image, target_image}
use Rattle.ibft_build_rules.proofs.range.target_image.Goals as goal

pub returns : goal.returns
unfolding target_image nic_image
returns c = (omega arith, omega arith)
