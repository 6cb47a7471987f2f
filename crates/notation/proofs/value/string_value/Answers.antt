-- `string_value` meets its contract: a width of more than 16, a string that cannot be read, one that is too long, one that is
-- written before zeros. Assumes nothing.
use Rattle.std.proofs.Common.{sym, ◌∙◌, arith}
use borrow.Author.Tests.{lt-leb}
use Rattle.octets.specs.Octets.{zeros}
use Rattle.notation.specs.Escape.{string_of}
use Rattle.notation.specs.Value.{string_value}
use Rattle.notation.proofs.EscapeLaws.{decoded-bad}
use Rattle.notation.proofs.ValueLaws.{string-answer, string-unread, string-too-long, string-read}
use Rattle.notation.proofs.value.string_value.Goals as goal

pub returns-then-width-gt16 : goal.returns-then-width-gt16
unfolding string_value
returns-then-width-gt16 c = rw (lt-leb c.args.width 16 c.if-width-gt16.true)

pub returns-in_err-size : goal.returns-in_err-size
returns-in_err-size c =
    let o = string_of c.args.text.now in
    c.from_residual.ensures ∙ string-unread c.args.width o (decoded-bad o (sym c.in_err-size.was ∙ c.string_length.ensures))
    ∙ sym (string-answer c.args.width _ (omega arith))

pub returns-then-width-size : goal.returns-then-width-size
returns-then-width-size c =
    string-too-long c.args.width _ (string_of c.args.text.now) (sym c.in_ok-size.was ∙ c.string_length.ensures) (omega arith)
    ∙ sym (string-answer c.args.width _ (omega arith))

pub returns : goal.returns
unfolding zeros
returns c =
    string-read c.args.width _ (string_of c.args.text.now) _ (sym c.in_ok-size.was ∙ c.string_length.ensures)
    (omega arith) (omega arith) c.put_string.ensures.bytes
    ∙ sym (string-answer c.args.width _ (omega arith))
