-- `field_step` meets its contract. Assumes nothing.
use Rattle.family_text.proofs.EnterLaws.{field-unknown, field-again, field-first, step_same}
use Rattle.family_text.proofs.enter.field_step.Goals as goal

pub returns-then-field_count-n : goal.returns-then-field_count-n
returns-then-field_count-n c =
    field-unknown c.args.family c.args.n c.args.text.now _ _ c.field_count.ensures.0 c.if-field_count-n.true

pub returns-then-byte_at-eq1 : goal.returns-then-byte_at-eq1
returns-then-byte_at-eq1 c =
    field-again c.args.family c.args.n c.args.text.now _ _
    c.field_count.ensures.0 c.if-field_count-n.false _ c.byte_at.ensures c.if-byte_at-eq1.true

pub returns : goal.returns
returns c =
    step_same _ _ _ c.value_step.ensures
    (field-first c.args.family c.args.n c.args.text.now _ _
    c.field_count.ensures.0 c.if-field_count-n.false _ c.byte_at.ensures c.if-byte_at-eq1.false)
