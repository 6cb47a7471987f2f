-- `entry_number` meets its contract: it closes the gap behind the entries of the extra NICs. Assumes nothing.
use Rattle.ibft_record.proofs.record.entry_number.Goals as goal

pub returns : goal.returns
returns c = cc
