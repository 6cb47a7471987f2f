-- `put_number` meets its contract: a byte in decimal, or a group in hexadecimal digits. Assumes nothing.
use mathlib.Core.Path.{◌≡◌, ap}
use mathlib.Core.Bool.{true, false}
use Rattle.text.proofs.PutLaws.{puts-same}
use Rattle.notation.specs.Number.{digits}
use Rattle.notation.proofs.address.put_number.Goals as goal

pub returns-then-four : goal.returns-then-four
returns-then-four c =
    let four : c.args.four ≡ true = c.if-four.true in
    rw four (puts-same c.put_decimal.ensures (ap (digits 10) c.byte_at.ensures))

pub returns : goal.returns
returns c =
    let six : c.args.four ≡ false = c.if-four.false in
    rw six (puts-same c.put_hex.ensures (ap (digits 16) c.group_at.ensures))
