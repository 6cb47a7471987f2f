-- `put_byte_text` meets its contract: the byte itself, or `\x` and two digits behind it. Assumes nothing.
use mathlib.Core.Path.{sym, ◌∙◌}
use Rattle.text.proofs.PutLaws.{puts-same, puts-append}
use Rattle.notation.proofs.EscapeLaws.{own-text, escape-text}
use Rattle.notation.proofs.escape.put_byte_text.Goals as goal

pub returns-then-is_shown : goal.returns-then-is_shown
returns-then-is_shown c =
    let seen = sym c.is_shown.ensures ∙ c.if-is_shown.true in
    puts-same c.put_char.ensures (own-text _ _ seen)

pub returns : goal.returns
returns c =
    let unseen = sym c.is_shown.ensures ∙ c.if-is_shown.false in
    puts-same (puts-append c.put_text-number.ensures c.put_hex_byte.ensures) (escape-text _ _ unseen)
