-- `slot_number` meets its contract: it closes the gap behind the extra NICs. Assumes nothing.
use Rattle.ibft_record.proofs.record.slot_number.Goals as goal

pub returns : goal.returns
returns c = cc
