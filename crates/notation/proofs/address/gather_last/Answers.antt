-- `gather_last` meets its contract: a group where IPv4 is not allowed or no dot is there, else IPv4. Assumes nothing.
use Rattle.std.proofs.Common.{◌≡◌, refl, sym, ◌∙◌, false, length, arith, lt-ltb, le-ltb}
use Rattle.octets.proofs.TestLaws.{and_no}
use Rattle.text.specs.Split.{index_of}
use Rattle.notation.specs.Address.{dot, holds}
use Rattle.notation.proofs.GatherLaws.{gathers-group, gathers-four, gathers-some, gathers-none}
use Rattle.notation.proofs.address.gather_last.Goals as goal

pub returns-then-not-four : goal.returns-then-not-four
returns-then-not-four c =
    let a = c.args in
    let no-four : a.four ≡ false = c.if-not-four.true in
    gathers-group a.four a.s.now (rw no-four) c.gather_group.ensures

pub returns-then-s-index_of : goal.returns-then-s-index_of
returns-then-s-index_of c =
    let a = c.args in
    gathers-group a.four a.s.now
    (and_no a.four (holds dot a.s.now) (λ h. le-ltb (index_of dot a.s.now) (length a.s.now) (omega (arith, c.index_of.ensures.0))))
    c.gather_group-then-s-index_of.ensures

pub returns-in-Some : goal.returns-in-Some
returns-in-Some c =
    let a = c.args in
    gathers-four a.four a.s.now c.if-not-four.false
    (lt-ltb (index_of dot a.s.now) (length a.s.now) (omega (arith, c.index_of.ensures.0)))
    (gathers-some c.put_text.ensures (sym c.read_four.ensures ∙ c.in-Some.is))

pub returns-in-None : goal.returns-in-None
returns-in-None c =
    let a = c.args in
    gathers-four a.four a.s.now c.if-not-four.false
    (lt-ltb (index_of dot a.s.now) (length a.s.now) (omega (arith, c.index_of.ensures.0)))
    (gathers-none (sym c.read_four.ensures ∙ c.in-None.is) refl refl)
