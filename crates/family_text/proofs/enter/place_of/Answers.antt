-- `place_of` meets its contract. Assumes nothing.
use mathlib.Core.Path.{ap}
use Prim.Native.Nat.{◌+◌}
use Rattle.family_text.specs.Enter.{place_written, place_of}
use Rattle.family_text.specs.declared.fields.FieldLayout.{FieldLayout}
use Rattle.family_text.proofs.enter.place_of.Goals as goal

pub returns : goal.returns
unfolding place_of
returns c = rw c.place_written.ensures.0 (ap (λ (x : FieldLayout). place_written x.part + x.at) c.field_at-field.ensures)
