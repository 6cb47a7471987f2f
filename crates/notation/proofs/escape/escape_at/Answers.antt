-- `escape_at` meets its contract: behind the backslash a second one, x, or neither. Assumes nothing.
use Rattle.std.proofs.Common.{arith}
use Rattle.notation.proofs.EscapeLaws.{begins-backslash, begins-x, begins-other}
use Rattle.notation.proofs.escape.escape_at.Goals as goal

pub returns-in-92 : goal.returns-in-92
returns-in-92 c = begins-backslash c.args.text.now c.args.i (omega arith) (omega arith)

pub returns-in-120 : goal.returns-in-120
returns-in-120 c = begins-x c.args.text.now c.args.i (omega arith) _ (omega arith) c.number_at.ensures

pub returns-in_default : goal.returns-in_default
returns-in_default c = begins-other c.args.text.now c.args.i (omega arith) (omega arith) (omega arith)
