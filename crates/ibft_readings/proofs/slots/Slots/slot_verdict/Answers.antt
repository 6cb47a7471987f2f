-- `slot_verdict` meets its contract: no slot from 17 on, and a structure is missing where its start is 0. Assumes nothing.
use mathlib.Core.Bool.{not-not}
use Rattle.ibft_table.specs.Table.{present_in}
use Rattle.ibft_readings.specs.Readings.{slot_verdict}
use Rattle.ibft_readings.proofs.slots.Slots.slot_verdict.Goals as goal

pub returns : goal.returns
unfolding slot_verdict present_in
returns c = simp (← c.start_in.ensures, not-not) c.verdict_of.ensures
