-- `value_step` meets its contract: a value that cannot be read, one whose bytes are put. Assumes nothing.
use Rattle.std.proofs.Common.{Bool, sym, ap, ◌∙◌}
use Rattle.notation.specs.Escape.{string_of}
use Rattle.family_text.specs.Enter.{is_oem, reason_of}
use Rattle.family_text.specs.declared.fields.FieldLayout.{FieldLayout}
use Rattle.family_text.proofs.EnterLaws.{value-bad, value-front, value-good, any-field}
use Rattle.family_text.proofs.enter.value_step.Goals as goal

pub returns-in_default : goal.returns-in_default
returns-in_default c =
    let a = c.args in
    let oem = c.is_oem.ensures ∙ ap (λ (x : FieldLayout). is_oem x.notation) c.field_at-field.ensures in
    value-bad a.family a.n a.text.now _ _ (sym c.in_default.is ∙ c.read_value.ensures)
    (c.reason_of-reason.ensures ∙ ap (λ (b : Bool). reason_of b (string_of a.text.now)) oem)

pub returns : goal.returns
returns c =
    let a = c.args in
    let width = ap (λ (x : FieldLayout). x.width) c.field_at-field.ensures in
    let bytes = value-front a.family a.n a.text.now _ _ _ (sym c.in-Some.is ∙ c.read_value.ensures) width c.part.ensures.bytes in
    any-field _ _ (value-good a.family a.n a.text.now _ _ _ _ _ bytes c.put_field.ensures c.put_byte.ensures)
