-- `nic_verdict` meets its contract: its image and that of the one before it. Assumes nothing.
use mathlib.Core.Path.{◌∙◌}
use Rattle.ibft_build_rules.specs.Refusals.{index_tests}
use Rattle.ibft_record.proofs.refusals_extras.nic_verdict.Goals as goal

pub returns : goal.returns
unfolding index_tests
returns c =
    c.index_verdict.ensures ∙ rw (c.nic_image-2.ensures.0, c.nic_image.ensures.0, c.saturating_sub.ensures)
