-- `digit_byte` meets its contract: the byte of the text of the digits. Assumes nothing.
use Rattle.octets.specs.Counting.{tabulate}
use Rattle.notation.specs.Number.{digit_byte}
use Rattle.notation.proofs.number.digit_byte.Goals as goal

pub returns : goal.returns
unfolding digit_byte tabulate
returns c = c.byte_at.ensures
