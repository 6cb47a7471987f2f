-- `put_field` meets its contract. Assumes nothing.
use mathlib.Core.Path.{ap, ◌∙◌}
use Rattle.octets.specs.Octets.{write}
use Rattle.family_text.specs.Enter.{place_of, present}
use Rattle.family_text.specs.declared.fields.FieldLayout.{FieldLayout}
use Rattle.family_text.proofs.enter.put_field.Goals as goal

pub returns : goal.returns
returns c =
    c.put_bytes.ensures ∙ rw (c.put_present.ensures, c.place_of-place.ensures)
    (ap (λ (x : FieldLayout). write (present c.args.image.now x.part)
    (place_of c.args.family c.args.n) c.args.bytes.now) c.field_at.ensures)
