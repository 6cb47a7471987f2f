-- `target_index` meets its contract. Assumes nothing.
use Rattle.ibft_readings.specs.Login.{target_index}
use Rattle.ibft_readings.proofs.slots.Slots.target_index.Goals as goal

pub returns : goal.returns
unfolding target_index
returns c = rw (c.index_in.ensures, c.target_slot.ensures)
