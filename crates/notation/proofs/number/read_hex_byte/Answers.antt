-- `read_hex_byte` meets its contract: two hexadecimal digits are at most 255, and past the end there is none. Assumes nothing.
use Rattle.std.proofs.Common.{sym, ◌∙◌, arith}
use Rattle.notation.proofs.NumberLaws.{hex_byte_at-below, hex_byte_at-past}
use Rattle.notation.proofs.number.read_hex_byte.Goals as goal

pub returns-then-s-at : goal.returns-then-s-at
returns-then-s-at c = sym (hex_byte_at-past c.args.s.now c.args.at (omega arith))

pub returns : goal.returns
returns c =
    c.read_numeral.ensures ∙ rw (c.byte_at.ensures, c.byte_at-2.ensures) (hex_byte_at-below c.args.s.now c.args.at)
