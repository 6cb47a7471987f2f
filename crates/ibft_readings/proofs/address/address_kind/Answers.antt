-- `address_kind` meets its contract: the test that fails settles it. Assumes nothing.
use mathlib.Core.Path.{◌≡◌, sym, ap, ◌∙◌}
use mathlib.Core.Bool.{and-false}
use lib.Seq.{length-take-le}
use borrow.Author.Tests.{eq-eqb, ne_eqb}
use Rattle.octets.specs.Octets.{byte, part}
use Rattle.ibft_readings.specs.Readings.{address_kind_of, address_number}
use Rattle.ibft_readings.specs.declared.address.AddressKind.TheVariants.{Absent, Ipv4Mapped, Other}
use borrow.Author.Rules.{rules}
use Rattle.ibft_readings.proofs.address.address_kind.Lts.{else-a-via-then-a+then-a-2+else-all_zero-2, else-a-via-then-a+else-a-2, else-a-via-else-a}
use Rattle.ibft_readings.proofs.address.address_kind.Goals as goal

pub returns-then-all_zero : goal.returns-then-all_zero
unfolding address_kind_of part
returns-then-all_zero c =
    let kind : Absent ≡ address_kind_of c.args.a = rw (sym c.all_zero.ensures ∙ c.if-all_zero.true) in
    record { value = kind; numbered = ap address_number kind }

pub slice_bounds-all_zero-end-then-a-2 : goal.slice_bounds-all_zero-end-then-a-2
slice_bounds-all_zero-end-then-a-2 c =
    sym (length-take-le 10 c.args.a (search rules))

pub returns-then-all_zero-2 : goal.returns-then-all_zero-2
unfolding address_kind_of part
returns-then-all_zero-2 c =
    let a = c.args.a in
    let nonzero = sym c.all_zero.ensures ∙ c.if-all_zero.false in
    let front = sym c.all_zero-then-a-2.ensures ∙ c.if-all_zero-2.true in
    let kind : Ipv4Mapped ≡ address_kind_of a = simp (nonzero, front, eq-eqb (byte a 10) 0xFF c.if-a.true, c.if-a-2.true) in
    record { value = kind; numbered = ap address_number kind }

pub returns : goal.returns
unfolding address_kind_of part
returns c =
    let a = c.args.a in
    let nonzero = sym c.all_zero.ensures ∙ c.if-all_zero.false in
    let kind : Other ≡ address_kind_of a = elim c.else-a.branch [
      | else-a-via-then-a+then-a-2+else-all_zero-2 w ↦ simp (nonzero, sym w.all_zero-then-a-2.ensures ∙ w.if-all_zero-2.false)
      | else-a-via-then-a+else-a-2 w ↦ simp (nonzero, ne_eqb (byte a 11) 0xFF w.if-a-2.false, and-false)
      | else-a-via-else-a w ↦ simp (nonzero, ne_eqb (byte a 10) 0xFF w.if-a.false, and-false)
    ] in
    record { value = kind; numbered = ap address_number kind }
