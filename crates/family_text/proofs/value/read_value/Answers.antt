-- `read_value` meets its contract: the field's notation and width decide, and every field's width fits. Assumes nothing.
use mathlib.Core.Path.{ap, ◌∙◌}
use Rattle.notation.specs.Value.{value_read}
use Rattle.family_text.specs.Value.{fits, value_bytes}
use Rattle.family_text.specs.declared.fields.FieldLayout.{FieldLayout}
use Rattle.family_text.proofs.ValueLaws.{field_fits}
use Rattle.family_text.proofs.value.read_value.Goals as goal

pub value_as-requires : goal.value_as-requires
value_as-requires c =
    ap (λ (x : FieldLayout). fits x.notation x.width) c.field_at-field.ensures ∙ field_fits c.args.family c.args.n

pub returns : goal.returns
returns c =
    c.value_as.ensures
    ∙ ap (λ (x : FieldLayout). value_read (value_bytes x.notation x.width c.args.text.now)) c.field_at-field.ensures
