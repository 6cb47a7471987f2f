-- `put_hex_byte` meets its contract: the two digits, one behind the other. Assumes nothing.
use mathlib.Core.Path.{◌≡◌, ap, ◌∙◌}
use Prim.Native.Nat.{◌/◌, ◌%◌}
use native.Mathlib.Omega.{arith}
use Rattle.notation.specs.Number.{digit_byte, padded}
use Rattle.notation.proofs.NumberLaws.{puts_first, puts-last}
use Rattle.notation.proofs.number.put_hex_byte.Goals as goal

pub returns : goal.returns
unfolding padded
returns c =
    let b = c.args.b in
    let high : b / 16 ≡ b / 16 % 16 = omega arith in
    puts-last
    (puts_first c.put_char-last.ensures (c.digit_byte.ensures ∙ ap digit_byte high))
    c.put_char.ensures
    c.digit_byte-2.ensures
