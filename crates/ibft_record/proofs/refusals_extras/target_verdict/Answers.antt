-- `target_verdict` meets its contract: its image and that of the one before it, behind the extra NICs. Assumes nothing.
use mathlib.Core.Path.{◌∙◌}
use Rattle.ibft_build_rules.specs.Refusals.{index_tests}
use Rattle.ibft_record.proofs.refusals_extras.target_verdict.Goals as goal

pub returns : goal.returns
unfolding index_tests
returns c =
    c.index_verdict.ensures
    ∙ rw (
      c.nics_given.ensures,
      c.target_image-2.ensures.0,
      c.saturating_sub.ensures,
      c.target_image.ensures.0,
    )
