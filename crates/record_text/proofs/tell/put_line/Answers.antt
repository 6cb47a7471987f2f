-- `put_line` meets its contract: the comment in place of a secret, or name, space, value and line feed, one behind another.
-- Assumes nothing.
use Rattle.text.proofs.PutLaws.{puts-same, puts-append}
use Rattle.record_text.specs.Tell.{line_with}
use Rattle.record_text.proofs.TellLaws.{line-hidden, line-untold, line-told}
use Rattle.record_text.proofs.tell.put_line.Goals as goal

pub returns-then-hide-is_secret : goal.returns-then-hide-is_secret
returns-then-hide-is_secret c =
    puts-same c.put_hidden.ensures (line-hidden _ _ _ _ _ _ c.is_secret.ensures c.if-hide-is_secret.true)

pub returns-then-not-is_told : goal.returns-then-not-is_told
returns-then-not-is_told c =
    puts-same c.put_text.ensures
    (line-untold _ _ _ _ _ _ c.is_secret.ensures c.if-hide-is_secret.false _ c.is_told.ensures
    (c.if-not-is_told.true))

pub returns : goal.returns
unfolding line_with
returns c =
    puts-same
    (puts-append c.put_name-name.ensures
    (puts-append c.put_char-space.ensures
    (puts-append c.put_value-value.ensures c.put_char.ensures)))
    (line-told _ _ _ _ _ _ c.is_secret.ensures c.if-hide-is_secret.false _ c.is_told.ensures (c.if-not-is_told.false))
