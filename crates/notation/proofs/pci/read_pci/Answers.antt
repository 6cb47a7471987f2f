-- `read_pci` meets its contract, by cases of the bus and of what follows it. Assumes nothing.
use Rattle.octets.specs.Options.{bind}
use Rattle.std.proofs.Common.{◌≡◌, sym, ap, ◌∙◌, ◌+◌, ◌*◌, ◌%◌, ◌^◌, ◌<◌, ℕ, List, arith}
use Rattle.std.specs.Prelude.{Some}
use lib.Bits.{bit_or}
use Rattle.notation.specs.Number.{hex_byte_at}
use Rattle.notation.specs.Pci.{device_function, read_pci}
use Rattle.notation.proofs.NumberLaws.{hex_byte_at-small}
use Rattle.notation.proofs.PciLaws.{device_function-small, or-bits}
use Rattle.notation.proofs.pci.read_pci.Goals as goal

-- the bus and the rest are bytes, and the word that they make
joined : (t : List ℕ) (bus rest : ℕ) → hex_byte_at t 0 ≡ Some bus → device_function t ≡ Some rest
    → (bit_or (bus * 256 % 2 ^ 64) rest ≡ bus * 256 + rest) × (bus * 256 + rest < 65536)
joined t bus rest e f =
    let high = hex_byte_at-small t 0 bus e in
    let low = device_function-small t rest f in
    (or-bits bus 8 rest (omega arith) low, omega arith)

pub returns-then-not-pci_form : goal.returns-then-not-pci_form
unfolding read_pci
returns-then-not-pci_form c = rw (sym c.pci_form.ensures ∙ c.if-not-pci_form.true)

pub returns-in_err-bus : goal.returns-in_err-bus
unfolding read_pci bind
returns-in_err-bus c =
    rw (sym c.pci_form.ensures ∙ c.if-not-pci_form.false, sym c.read_hex_byte.ensures ∙ c.in_err-bus.was) c.from_residual.ensures

pub returns-in_err-rest : goal.returns-in_err-rest
unfolding read_pci bind
returns-in_err-rest c =
    rw (
      sym c.pci_form.ensures ∙ c.if-not-pci_form.false,
      sym c.read_hex_byte.ensures ∙ c.in_ok-bus.was,
      sym c.read_device_function.ensures ∙ c.in_err-rest.was,
    ) c.from_residual-in_err-rest.ensures

pub overflow_cast-result : goal.overflow_cast-result
overflow_cast-result c =
    let word = joined c.args.s.now _ _ (sym c.read_hex_byte.ensures ∙ c.in_ok-bus.was) (sym c.read_device_function.ensures ∙ c.in_ok-rest.was) in
    omega (arith, word.0, word.1)

pub returns : goal.returns
unfolding read_pci bind
returns c =
    let bus = sym c.read_hex_byte.ensures ∙ c.in_ok-bus.was in
    let rest = sym c.read_device_function.ensures ∙ c.in_ok-rest.was in
    rw (sym c.pci_form.ensures ∙ c.if-not-pci_form.false, bus, rest) (ap Some (joined c.args.s.now _ _ bus rest).0)
