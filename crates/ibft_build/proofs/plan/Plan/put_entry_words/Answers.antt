-- `put_entry_words` meets its contract: the writes of its two words are one. Assumes nothing.
use Rattle.ibft_build.proofs.StructureLaws.{entry-words}
use Rattle.ibft_build.proofs.plan.Plan.put_entry_words.Goals as goal

pub returns : goal.returns
returns c =
    entry-words _ _ _ _ _ _ _ _ c.saturating_sub.ensures c.put_u16.ensures c.put_u16-2.ensures
