-- `is_valid` meets its contract: a target that is absent is not valid, whatever stands where its flags would. Assumes nothing.
use mathlib.Core.Path.{ap, ◌∙◌}
use native.Mathlib.Omega.{arith}
use borrow.Author.Tests.{eq-eqb, ne_eqb}
use Rattle.ibft_layout.specs.Layout.{target_slot}
use Rattle.ibft_table.specs.Table.{start_in, present_in}
use Rattle.ibft_readings.specs.Login.{has, valid}
use Rattle.ibft_readings.proofs.slots.Slots.is_valid.Goals as goal

pub returns-then-start_in-eq0 : goal.returns-then-start_in-eq0
unfolding valid present_in
returns-then-start_in-eq0 c =
    let a = c.args in
    let start = c.start_in.ensures ∙ ap (start_in a.self.now.starts) c.target_slot.ensures in
    rw (eq-eqb (start_in a.self.now.starts (target_slot a.n)) 0 (omega arith))

pub returns : goal.returns
unfolding valid present_in
returns c =
    let a = c.args in
    let start = c.start_in.ensures ∙ ap (start_in a.self.now.starts) c.target_slot.ensures in
    rw (ne_eqb (start_in a.self.now.starts (target_slot a.n)) 0 (omega arith)) (ap (has 1) c.target_flags.ensures)
