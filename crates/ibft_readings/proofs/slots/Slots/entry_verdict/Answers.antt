-- `entry_verdict` meets its contract: what `verdict_of` ensures. Assumes nothing.
use Rattle.ibft_readings.specs.Readings.{entry_verdict}
use Rattle.ibft_readings.proofs.slots.Slots.entry_verdict.Goals as goal

pub returns : goal.returns
unfolding entry_verdict
returns c = rw (c.verdict_of.ensures, c.holds_entry.ensures)
