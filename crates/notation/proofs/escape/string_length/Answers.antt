-- `string_length` meets its contract: the bytes counted so far and those of the rest are those of the whole. Assumes nothing.
use Rattle.std.proofs.Common.{sym, ap, ◌∙◌, length, arith}
use Rattle.std.specs.Prelude.{option_map}
use Rattle.notation.specs.Escape.{bytes_of}
use Rattle.notation.proofs.EscapeLaws.{string-none, string-quotes, string_bytes, longer-zero, longer-broken, longer-more, longer-end}
use Rattle.notation.proofs.escape.string_length.Goals as goal

pub returns-then-text-eq0 : goal.returns-then-text-eq0
returns-then-text-eq0 c = sym (ap (option_map length) (string-none c.args.text.now (omega arith)))

pub returns-then-is_quotes : goal.returns-then-is_quotes
returns-then-is_quotes c =
    sym (ap (option_map length) (string-quotes c.args.text.now (omega arith) (sym c.is_quotes.ensures ∙ c.if-is_quotes.true)))

pub loop-i-init : goal.loop-i-init
loop-i-init c =
    let t = c.args.text.now in
    let pieces = string_bytes t (omega arith) (sym c.is_quotes.ensures ∙ c.if-is_quotes.false) in
    (omega arith, omega arith, longer-zero (bytes_of t) ∙ ap (option_map length) (sym pieces))

pub returns-in_err-piece : goal.returns-in_err-piece
returns-in_err-piece c =
    let l = c.loop-i in
    c.from_residual.ensures ∙ longer-broken c.args.text.now l.i l.n _ l.invariant.2 c.in_err-piece.ensures

pub loop-i-preserved : goal.loop-i-preserved
loop-i-preserved c =
    let l = c.loop-i in
    let p = c.in_ok-piece.ensures in
    (omega (arith, p.some_bytes), omega (arith, p.within), longer-more c.args.text.now l.i l.n _ l.invariant.2 c.in_ok-piece.piece p)

pub returns : goal.returns
returns c =
    let l = c.loop-i in
    longer-end c.args.text.now l.i l.n _ l.invariant.2 (omega arith)
