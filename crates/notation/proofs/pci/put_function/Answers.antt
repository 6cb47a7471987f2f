-- `put_function` meets its contract: the dot, and behind it the digit; a mask of ones is a remainder. Assumes nothing.
use mathlib.Core.Path.{ap, ◌∙◌}
use native.Mathlib.Omega.{arith}
use lib.Bits.{and_mask}
use Rattle.text.proofs.PutLaws.{puts-append}
use Rattle.notation.specs.Number.{digit_byte}
use Rattle.notation.proofs.NumberLaws.{puts_first}
use Rattle.notation.proofs.pci.put_function.Goals as goal

pub overflow_cast-word : goal.overflow_cast-word
overflow_cast-word c =
    omega (arith, and_mask c.args.word 3)

pub returns : goal.returns
returns c =
    let digit = c.digit_byte.ensures ∙ ap digit_byte (and_mask c.args.word 3) in
    puts-append c.put_char-next.ensures (puts_first c.put_char.ensures digit)
