-- `number_at` meets its contract: no number, or one, which is at most 255. Assumes nothing.
use Rattle.std.proofs.Common.{sym, ◌∙◌, ◌+◌, arith}
use Rattle.notation.proofs.NumberLaws.{hex_byte_at-small}
use Rattle.notation.proofs.EscapeLaws.{begins-no-number, begins-number}
use Rattle.notation.proofs.escape.number_at.Goals as goal

pub returns-in_err-v : goal.returns-in_err-v
returns-in_err-v c =
    rw c.from_residual.ensures
    (begins-no-number c.args.text.now c.args.i (omega arith) (sym c.read_hex_byte.ensures ∙ c.in_err-v.was))

pub overflow_cast-result : goal.overflow_cast-result
overflow_cast-result c =
    omega (arith, hex_byte_at-small c.args.text.now (c.args.i + 2) c.in_ok-v.v (sym c.read_hex_byte.ensures ∙ c.in_ok-v.was))

pub returns : goal.returns
returns c = begins-number c.args.text.now c.args.i (omega arith) _ (sym c.read_hex_byte.ensures ∙ c.in_ok-v.was)
