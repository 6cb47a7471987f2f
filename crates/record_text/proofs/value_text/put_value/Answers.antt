-- `put_value` meets its contract: the field's notation decides. Assumes nothing.
use mathlib.Core.Path.{ap}
use Rattle.text.proofs.PutLaws.{puts-same}
use Rattle.record_text.specs.Fields.{group_of}
use Rattle.record_text.specs.Value.{value_text}
use Rattle.record_text.specs.declared.fields.FieldLayout.{FieldLayout}
use Rattle.record_text.proofs.value_text.put_value.Goals as goal

pub returns : goal.returns
returns c =
    let a = c.args in
    puts-same c.put_as.ensures
    (ap (λ (x : FieldLayout). value_text (group_of a.kind).flags x.notation a.bytes.now) c.field_at-field.ensures)
