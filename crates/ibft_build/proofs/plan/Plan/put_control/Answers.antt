-- `Plan::put_control` meets its contract: its start, the words of the named slots and those of the extras fill the stretch.
-- Assumes nothing.
use Rattle.ibft_build.proofs.HeaderLaws.{control-is}
use Rattle.ibft_build.proofs.plan.Plan.put_control.Goals as goal

pub returns : goal.returns
returns c =
    control-is _ _ _ _ _ _ _ _ _ _ c.requires c.extra_nics-nics.ensures.0
    c.extra_targets-targets.ensures.0 c.byte_at.ensures c.control_front-front.ensures
    c.put_bytes.ensures c.put_start_words.ensures
    c.put_start_words-2.ensures c.put_start_words-3.ensures
