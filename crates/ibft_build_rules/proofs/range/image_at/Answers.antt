-- `image_at` meets its contract: by the slot's number. Assumes nothing.
use mathlib.Core.Path.{◌∙◌}
use native.Mathlib.Omega.{arith}
use Rattle.ibft_build_rules.proofs.RecordRangeLaws.{image-named, image-nic, image-target}
use Rattle.ibft_build_rules.proofs.range.image_at.Goals as goal

pub returns-then-k-lt-NAMED_COUNT : goal.returns-then-k-lt-NAMED_COUNT
returns-then-k-lt-NAMED_COUNT c = (c.named_image.ensures.0 ∙ image-named _ _ (omega arith), omega arith)

pub returns-then-k-lt-EXTRA_TARGETS : goal.returns-then-k-lt-EXTRA_TARGETS
returns-then-k-lt-EXTRA_TARGETS c = (c.nic_image.ensures.0 ∙ image-nic _ _ (omega arith) (omega arith), omega arith)

pub returns : goal.returns
returns c = (c.target_image.ensures.0 ∙ image-target _ _ (omega arith), omega arith)
