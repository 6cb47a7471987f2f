-- `field_shape` meets its contract, kind by kind. Assumes nothing.
use mathlib.Core.Path.{◌∙◌, ap}
use Prim.Native.Nat.{ℕ}
use Rattle.ibft_layout.specs.Layout.{Field, kind_of, kind_field}
use Rattle.ibft_layout.specs.Shapes.{field_shape}
use Rattle.ibft_layout.proofs.LayoutLaws.{last_arm}
use Rattle.record_text.specs.Fields.{Group, group_of, place_in}
use Rattle.record_text.proofs.FieldsLaws.{row, group-past, control-place}
use Rattle.record_text.proofs.fields.field_shape.Goals as goal

pub returns-in-1 : goal.returns-in-1
unfolding group_of
returns-in-1 c =
    row (λ (k : ℕ). field_shape (place_in (group_of k) c.args.n)) 1 _ _ (ap (λ (x : Field). field_shape x) (control-place _)) c.in-1.is

pub returns-in_default : goal.returns-in_default
unfolding group_of
returns-in_default c =
    let n = c.args.n in
    c.oem_place.ensures
    ∙ last_arm (λ (k : ℕ). field_shape (place_in (group_of k) n)) 4 _ c.in_default.in_default-own.rest (λ h. ap (λ (x : Group). field_shape (place_in x n)) (group-past _ h))

pub returns-in-2 : goal.returns-in-2
unfolding group_of place_in kind_of kind_field
returns-in-2 c = row (λ (k : ℕ). field_shape (place_in (group_of k) c.args.n)) 2 _ _ c.field_of.ensures c.in-2.is

pub returns-in-3 : goal.returns-in-3
unfolding group_of place_in kind_of kind_field
returns-in-3 c = row (λ (k : ℕ). field_shape (place_in (group_of k) c.args.n)) 3 _ _ c.field_of-in-3.ensures c.in-3.is

pub returns-in-4 : goal.returns-in-4
unfolding group_of place_in kind_of kind_field
returns-in-4 c = row (λ (k : ℕ). field_shape (place_in (group_of k) c.args.n)) 4 _ _ c.field_of-in-4.ensures c.in-4.is
