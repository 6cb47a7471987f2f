-- `read_device_function` meets its contract, by cases of the device and of the function. Assumes nothing.
use Rattle.octets.specs.Options.{bind}
use Rattle.std.proofs.Common.{sym, ap, ◌∙◌, arith}
use Rattle.std.specs.Prelude.{Some}
use Rattle.notation.specs.Number.{below}
use Rattle.notation.specs.Pci.{device_function}
use Rattle.notation.proofs.NumberLaws.{below-yes, below-no, digit-below}
use Rattle.notation.proofs.PciLaws.{or-bits}
use Rattle.notation.proofs.pci.read_device_function.Goals as goal

pub returns-in_err-device : goal.returns-in_err-device
unfolding device_function below bind
returns-in_err-device c = rw (sym c.read_hex_byte.ensures ∙ c.in_err-device.was) c.from_residual.ensures

pub returns-then-device-gt31 : goal.returns-then-device-gt31
unfolding device_function bind
returns-then-device-gt31 c = rw (sym c.read_hex_byte.ensures ∙ c.in_ok-device.was, below-no 32 c.in_ok-device.device (omega arith))

pub returns-in_err-function : goal.returns-in_err-function
unfolding device_function bind
returns-in_err-function c =
    rw (
      sym c.read_hex_byte.ensures ∙ c.in_ok-device.was,
      below-yes 32 c.in_ok-device.device (omega arith),
      ← c.byte_at.ensures,
      sym c.digit_value.ensures ∙ c.in_err-function.was,
    ) c.from_residual-in_err-function.ensures

pub returns : goal.returns
unfolding device_function bind
returns c =
    let read = sym c.digit_value.ensures ∙ c.in_ok-function.was in
    rw (
      sym c.read_hex_byte.ensures ∙ c.in_ok-device.was,
      below-yes 32 c.in_ok-device.device (omega arith),
      ← c.byte_at.ensures,
      read,
    )
    (ap Some (or-bits c.in_ok-device.device 3 c.in_ok-function.function (omega arith)
    (digit-below 8 c.byte_at.result c.in_ok-function.function read)))
