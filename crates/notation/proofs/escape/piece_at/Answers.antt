-- `piece_at` meets its contract: a backslash, a byte that stands for itself, or neither. Assumes nothing.
use Rattle.std.proofs.Common.{sym, ◌∙◌, arith}
use Rattle.notation.proofs.EscapeLaws.{begins-escape, begins-bare, begins-control}
use Rattle.notation.proofs.escape.piece_at.Goals as goal

pub returns-then-b-eq92 : goal.returns-then-b-eq92
returns-then-b-eq92 c = begins-escape c.args.text.now c.args.i (omega arith) _ (omega arith) c.escape_at.ensures

pub returns-then-not-is_bare : goal.returns-then-not-is_bare
returns-then-not-is_bare c =
    begins-control c.args.text.now c.args.i (omega arith) (omega arith) (sym c.is_bare.ensures ∙ c.if-not-is_bare.true)

pub returns : goal.returns
returns c =
    begins-bare c.args.text.now c.args.i (omega arith) (omega arith) (sym c.is_bare.ensures ∙ c.if-not-is_bare.false)
