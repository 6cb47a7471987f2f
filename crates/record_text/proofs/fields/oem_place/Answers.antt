-- `oem_place` meets its contract, number by number. Assumes nothing.
use mathlib.Core.Path.{refl, ap}
use Prim.Native.Nat.{ℕ}
use Rattle.ibft_layout.specs.Layout.{Field}
use Rattle.ibft_layout.specs.Shapes.{field_shape}
use Rattle.ibft_layout.proofs.LayoutLaws.{last_arm}
use Rattle.record_text.specs.Fields.{oem, place_in}
use Rattle.record_text.proofs.FieldsLaws.{row, place-past}
use Rattle.record_text.proofs.fields.oem_place.Goals as goal

pub returns-in_default : goal.returns-in_default
unfolding place_in
returns-in_default c = last_arm (λ (n : ℕ). field_shape (place_in oem n)) 1 _ c.in_default.in_default-own.rest (λ h. ap (λ (x : Field). field_shape x) (place-past oem _ h))

pub returns-in-1 : goal.returns-in-1
unfolding place_in
returns-in-1 c = row (λ (n : ℕ). field_shape (place_in oem n)) 1 _ _ refl c.in-1.is
