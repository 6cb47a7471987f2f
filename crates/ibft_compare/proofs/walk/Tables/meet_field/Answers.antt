-- `Tables::meet_field` meets its contract: the field's bytes stand in both structures at the same place. Assumes nothing.
use Rattle.std.proofs.Common.{◌≡◌, ap}
use Rattle.ibft_layout.specs.Layout.{kind_of, kind_field}
use Rattle.ibft_layout.specs.Shapes.{field_shape}
use Rattle.ibft_layout.specs.declared.shape.Shape.{Shape}
use Rattle.ibft_compare.proofs.PointLaws.{field-inside, field-met}
use Rattle.ibft_compare.proofs.walk.Tables.meet_field.Goals as goal

pub returns : goal.returns
returns c =
    let a = c.args in
    let pre = c.requires in
    let p = a.pair in
    let f = kind_field (kind_of p.group) a.n in
    let inside = field-inside p.group a.n pre.0.group pre.1 in
    let shape : c.field_of-f.result ≡ field_shape f = c.field_of-f.ensures in
    field-met a.self.now.left.bytes.now a.self.now.right.bytes.now p a.met _ _ (ap (λ (k : Shape). k.id) c.kind_of-id.ensures) pre.0 f _ _ _ _ _
    inside.0
    inside.1
    c.start-l.ensures
    c.start-r.ensures
    (rw shape at c.field_differs-differs.ensures)
    (rw shape at c.field_stretch.ensures)
    (rw shape at c.field_stretch-2.ensures)
    (rw shape at c.then.ensures.0)
