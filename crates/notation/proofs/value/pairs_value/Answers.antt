-- `pairs_value` meets its contract: a width of more than 16, pairs that cannot be read, and those that are read before zeros.
-- Assumes nothing.
use Rattle.std.proofs.Common.{sym, ◌∙◌, arith}
use borrow.Author.Tests.{lt-leb}
use Rattle.octets.specs.Octets.{zeros}
use Rattle.notation.specs.Value.{pairs_value}
use Rattle.notation.proofs.ValueLaws.{pairs-answer, pairs-read, pairs-unread}
use Rattle.notation.proofs.value.pairs_value.Goals as goal

pub returns-then-width-gt16 : goal.returns-then-width-gt16
unfolding pairs_value
returns-then-width-gt16 c = rw (lt-leb c.args.width 16 c.if-width-gt16.true)

pub returns-then-not-read_pairs : goal.returns-then-not-read_pairs
unfolding zeros
returns-then-not-read_pairs c =
    pairs-unread c.args.width c.args.text.now (omega arith) c.read_pairs.ensures.0 c.if-not-read_pairs.true
    ∙ sym (pairs-answer c.args.width c.args.text.now (omega arith))

pub returns : goal.returns
unfolding zeros
returns c =
    pairs-read c.args.width c.args.text.now (omega arith) c.read_pairs.ensures.0 c.if-not-read_pairs.false c.read_pairs.ensures.1
    ∙ sym (pairs-answer c.args.width c.args.text.now (omega arith))
