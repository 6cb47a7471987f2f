-- `Plan::put_start_words` meets its contract: the words of the slots passed are written. Assumes nothing.
use Rattle.ibft_build.proofs.PatchLaws.{gather_none}
use Rattle.ibft_build.proofs.HeaderLaws.{start-words-next}
use Rattle.ibft_build.proofs.plan.Plan.put_start_words.Goals as goal

pub loop-i-init : goal.loop-i-init
loop-i-init c = gather_none _ _ _ _

pub loop-i-preserved : goal.loop-i-preserved
loop-i-preserved c =
    let l = c.loop-i in start-words-next _ _ _ _ _ _ l.i _ l.invariant c.structure_start.ensures c.put_u16.ensures
