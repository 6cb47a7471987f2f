-- `is_told` meets its contract. Assumes nothing.
use Rattle.record_text.specs.Tell.{is_told}
use Rattle.record_text.proofs.tell.is_told.Goals as goal

pub returns-then-is_text : goal.returns-then-is_text
unfolding is_told
returns-then-is_text c = rw (← c.field_at-field.ensures, ← c.is_text.ensures, c.if-is_text.true)

pub returns-then-is_always : goal.returns-then-is_always
unfolding is_told
returns-then-is_always c =
    rw (← c.field_at-field.ensures, ← c.is_text.ensures, ← c.is_always.ensures, c.if-is_text.false, c.if-is_always.true)

pub returns : goal.returns
unfolding is_told
returns c =
    rw (
      ← c.field_at-field.ensures,
      ← c.is_text.ensures,
      ← c.is_always.ensures,
      c.if-is_text.false,
      c.if-is_always.false,
      c.all_zero.ensures,
    )
