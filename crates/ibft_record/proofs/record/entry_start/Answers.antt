-- `entry_start` meets its contract: it reads the entry's second word. Assumes nothing.
use Rattle.ibft_build_rules.specs.RecordRange.{start_given}
use Rattle.ibft_record.proofs.record.entry_start.Goals as goal

pub returns : goal.returns
unfolding start_given
returns c = cc
