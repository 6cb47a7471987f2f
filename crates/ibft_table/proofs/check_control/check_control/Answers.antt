-- `check_control` meets its contract: the first of its tests that fails. Assumes nothing.
use Rattle.std.proofs.Common.{sym, ◌∙◌, arith, eq-eqb, ne_eqb}
use Rattle.octets.specs.Octets.{word16}
use Rattle.table_header.specs.Verdict.{first_of}
use Rattle.ibft_table.specs.Check.{reserved_set, control_tests}
use Rattle.ibft_table.proofs.check_control.check_control.Goals as goal

pub returns-then-alien_control : goal.returns-then-alien_control
unfolding first_of control_tests
returns-then-alien_control c = c.refuse.ensures ∙ sym (simp (sym c.alien_control.ensures ∙ c.if-alien_control.true))

pub returns-then-byte_at-ne0 : goal.returns-then-byte_at-ne0
unfolding first_of control_tests reserved_set
returns-then-byte_at-ne0 c =
    let own = sym c.alien_control.ensures ∙ c.if-alien_control.false in
    c.refuse-then-byte_at-ne0.ensures ∙ sym (simp (own, ← c.byte_at.ensures, ne_eqb _ _ c.if-byte_at-ne0.true))

pub returns-then-u16_at-ne0 : goal.returns-then-u16_at-ne0
unfolding first_of control_tests reserved_set
returns-then-u16_at-ne0 c =
    let own = sym c.alien_control.ensures ∙ c.if-alien_control.false in
    c.refuse-then-u16_at-ne0.ensures
    ∙ sym (simp (own, ← c.byte_at.ensures, c.if-byte_at-ne0.false, ne_eqb (word16 c.args.table.t.now 54) 0 (omega arith)))

pub returns : goal.returns
unfolding first_of control_tests reserved_set
returns c =
    let own = sym c.alien_control.ensures ∙ c.if-alien_control.false in
    sym (simp (own, ← c.byte_at.ensures, c.if-byte_at-ne0.false, eq-eqb (word16 c.args.table.t.now 54) 0 (omega arith)))
