-- `is_selected` meets its contract: a target that is not valid is not selected, whatever its flags. Assumes nothing.
use mathlib.Core.Path.{sym, ◌∙◌}
use Rattle.ibft_readings.specs.Login.{selected}
use Rattle.ibft_readings.proofs.slots.Slots.is_selected.Goals as goal

pub returns-then-not-is_valid : goal.returns-then-not-is_valid
unfolding selected
returns-then-not-is_valid c = rw (sym c.is_valid.ensures ∙ c.if-not-is_valid.true)

pub returns : goal.returns
unfolding selected
returns c = rw (sym c.is_valid.ensures ∙ c.if-not-is_valid.false, c.target_flags.ensures)
