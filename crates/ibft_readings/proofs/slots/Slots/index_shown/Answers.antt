-- `index_shown` meets its contract, by cases of the verdict. Assumes nothing.
use Rattle.ibft_readings.specs.Readings.{index_shown}
use Rattle.ibft_readings.proofs.slots.Slots.index_shown.Goals as goal

pub returns-in-Ok : goal.returns-in-Ok
unfolding index_shown
returns-in-Ok c = rw c.in-Ok.is c.index_in.ensures

pub returns-in-Err : goal.returns-in-Err
unfolding index_shown
returns-in-Err c = rw c.in-Err.is
