-- `lead_of` meets its contract: no target passed is selected, so that the first one found is the first there is. Assumes
-- nothing.
use Rattle.std.proofs.Common.{sym, ◌∙◌, arith, bit_and, eq-eqb, ne_eqb}
use Rattle.octets.proofs.CountingLaws.{first-is}
use Rattle.ibft_layout.specs.Layout.{target_count}
use Rattle.ibft_readings.specs.Login.{selected, chosen}
use Rattle.ibft_readings.proofs.slots.Slots.lead_of.Goals as goal

pub returns-then-control_of-eq0 : goal.returns-then-control_of-eq0
unfolding chosen
returns-then-control_of-eq0 c = rw (← c.control_of.ensures, eq-eqb (bit_and c.control_of.result.flags 1) 0 c.if-control_of-eq0.true)

pub returns-then-is_selected : goal.returns-then-is_selected
unfolding chosen
returns-then-is_selected c =
    let a = c.args in
    let l = c.loop-n in
    let flags = c.control_of in
    let hit = sym c.is_selected.ensures ∙ c.if-is_selected.true in
    rw (← flags.ensures, ne_eqb (bit_and flags.result.flags 1) 0 c.if-control_of-eq0.false)
    (sym (first-is target_count (selected a.self.now.starts a.self.now.t.now) l.n (omega arith) l.invariant (λ h. hit)))

pub returns : goal.returns
unfolding chosen
returns c =
    let a = c.args in
    let l = c.loop-n in
    let flags = c.control_of in
    rw (← flags.ensures, ne_eqb (bit_and flags.result.flags 1) 0 c.if-control_of-eq0.false)
    (sym (first-is target_count (selected a.self.now.starts a.self.now.t.now) target_count (omega arith)
    (λ i h. l.invariant i (omega arith)) (λ h. absurd (omega arith))))
