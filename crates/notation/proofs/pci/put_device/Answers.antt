-- `put_device` meets its contract: the colon, the device and the function, one behind another; a mask of ones is a remainder.
-- Assumes nothing.
use mathlib.Core.Path.{ap}
use Prim.Native.Nat.{ℕ, ◌/◌}
use native.Mathlib.Omega.{arith}
use lib.Bits.{and_mask}
use Rattle.text.proofs.PutLaws.{puts-append, puts-same}
use Rattle.notation.specs.Number.{padded}
use Rattle.notation.proofs.pci.put_device.Goals as goal

pub overflow_cast-word : goal.overflow_cast-word
overflow_cast-word c =
    omega (arith, and_mask (c.args.word / 8) 5)

pub returns : goal.returns
returns c =
    let word = c.args.word in
    let device = puts-same c.put_hex_byte-next.ensures (ap (λ (n : ℕ). padded 2 16 n) (and_mask (word / 8) 5)) in
    puts-append c.put_char-device.ensures
    (puts-append device c.put_function.ensures)
