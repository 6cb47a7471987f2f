-- `put_difference` meets its contract: what differs decides the line. Assumes nothing.
use mathlib.Core.Path.{refl, ap}
use Rattle.record_text.specs.declared.fields.FieldName.{FieldName}
use Rattle.text.proofs.PutLaws.{puts-same}
use Rattle.difference_text.specs.DifferenceText.{field_line, line_of}
use Rattle.difference_text.proofs.LineLaws.{line-is, entry-is}
use Rattle.difference_text.proofs.put_difference.Goals as goal

pub returns-in-Nothing : goal.returns-in-Nothing
unfolding line_of
returns-in-Nothing c =
    puts-same c.put_text.ensures (line-is _ _ _ _ _ _ c.in-Nothing.is refl)

pub returns-in-OemId : goal.returns-in-OemId
unfolding line_of
returns-in-OemId c =
    puts-same c.put_field.ensures (line-is _ _ _ _ _ _ c.in-OemId.is refl)

pub returns-in-OemTableId : goal.returns-in-OemTableId
unfolding line_of
returns-in-OemTableId c =
    puts-same c.put_field-in-OemTableId.ensures (line-is _ _ _ _ _ _ c.in-OemTableId.is refl)

pub returns-in-ControlFlags : goal.returns-in-ControlFlags
unfolding line_of
returns-in-ControlFlags c =
    puts-same c.put_field-in-ControlFlags.ensures (line-is _ _ _ _ _ _ c.in-ControlFlags.is refl)

pub returns-in-Presence : goal.returns-in-Presence
unfolding line_of
returns-in-Presence c =
    puts-same c.put_presence.ensures (line-is _ _ _ _ _ _ c.in-Presence.is refl)

pub returns-in-Field : goal.returns-in-Field
unfolding line_of
returns-in-Field c =
    let a = c.args in
    puts-same c.put_field-in-Field.ensures
    (line-is _ _ _ _ _ _ c.in-Field.is
    (ap (λ (f : FieldName). field_line f a.left.now a.right.now a.reading) c.name_at.ensures))

pub returns-in-Entry : goal.returns-in-Entry
unfolding line_of
returns-in-Entry c =
    puts-same c.put_entry.ensures
    (line-is _ _ _ _ _ _ c.in-Entry.is
    (entry-is c.args.hide _ _ _ _ _ _ c.name_at-f.ensures c.is_secret.ensures))
