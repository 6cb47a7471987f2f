-- `entry_length` meets its contract: it reads the entry's first word. Assumes nothing.
use Rattle.ibft_build_rules.specs.RecordRange.{length_given}
use Rattle.ibft_record.proofs.record.entry_length.Goals as goal

pub returns : goal.returns
unfolding length_given
returns c = cc
