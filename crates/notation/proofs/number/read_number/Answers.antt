-- `read_number` meets its contract: what `read_numeral` says of the digits behind 0x, or of all. Assumes nothing.
use mathlib.Core.Path.{◌≡◌, ◌∙◌}
use mathlib.Core.Bool.{true, false}
use native.Mathlib.Omega.{arith}
use lib.ListN.{length}
use Rattle.octets.proofs.ReadLaws.{part-rest}
use Rattle.notation.specs.Number.{is_hex, number}
use Rattle.notation.proofs.number.read_number.Goals as goal

pub returns-then-byte_at : goal.returns-then-byte_at
unfolding number
returns-then-byte_at c =
    let t = c.args.s.now in
    let hex : is_hex t ≡ true =
    rw (← c.byte_at.ensures, ← c.byte_at-2.ensures) c.if-byte_at.true in
    c.read_numeral.ensures ∙ rw (c.part.ensures.bytes, part-rest t 2 (length t) (omega arith), hex)

pub returns : goal.returns
unfolding number
returns c =
    let t = c.args.s.now in
    let decimal : is_hex t ≡ false =
    rw (← c.byte_at.ensures, ← c.byte_at-2.ensures) c.if-byte_at.false in
    c.read_numeral-2.ensures ∙ rw decimal
