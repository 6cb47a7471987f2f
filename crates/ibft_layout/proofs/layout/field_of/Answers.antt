-- `field_of` meets its contract: the ID tells the kind. Assumes nothing.
use Rattle.std.proofs.Common.{◌≡◌, ℕ, sym, ap, ◌∙◌}
use Rattle.ibft_layout.specs.Layout.{Kind, kind_of, kind_field}
use Rattle.ibft_layout.specs.Shapes.{shape_of, field_shape}
use Rattle.ibft_layout.specs.declared.shape.Shape.{Shape}
use Rattle.ibft_layout.specs.declared.shape.FieldShape.{FieldShape}
use Rattle.ibft_layout.proofs.LayoutLaws.{kind-nic, kind-target, kind-other}
use Rattle.ibft_layout.proofs.layout.field_of.Goals as goal

-- what the code reads of the slot's kind is the kind's ID
id-is : (k : ℕ) (shape : Shape) → shape ≡ shape_of (kind_of k) → shape.id ≡ (kind_of k).id
id-is k shape e = ap (λ (s : Shape). s.id) e

-- field n, by the kind
abbrev of : ℕ → Kind → FieldShape
of n kind = field_shape (kind_field kind n)

pub returns-then-id-eq-ID : goal.returns-then-id-eq-ID
returns-then-id-eq-ID c =
    let id = id-is c.args.k _ c.kind_of-id.ensures in
    c.field.ensures ∙ ap (of c.args.n) (kind-nic _ (sym id ∙ c.if-id-eq-ID.true))

pub returns-then-id-eq-ID-2 : goal.returns-then-id-eq-ID-2
returns-then-id-eq-ID-2 c =
    let id = id-is c.args.k _ c.kind_of-id.ensures in
    c.field-then-id-eq-ID-2.ensures ∙ ap (of c.args.n) (kind-target _ (sym id ∙ c.if-id-eq-ID-2.true))

pub returns : goal.returns
returns c =
    let id = id-is c.args.k _ c.kind_of-id.ensures in
    c.field-2.ensures ∙ ap (of c.args.n) (kind-other _ (λ e. c.if-id-eq-ID.false (id ∙ e)) (λ e. c.if-id-eq-ID-2.false (id ∙ e)))
