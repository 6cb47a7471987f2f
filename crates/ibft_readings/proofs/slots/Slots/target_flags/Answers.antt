-- `target_flags` meets its contract: the byte at 5 from the target's start. Assumes nothing.
use Rattle.ibft_readings.specs.Login.{target_flags}
use Rattle.ibft_readings.proofs.slots.Slots.target_flags.Goals as goal

pub returns : goal.returns
unfolding target_flags
returns c = rw (c.byte_at.ensures, c.start_in.ensures, c.target_slot.ensures)
