-- `Tables::meet_presence` meets its contract: a structure is there where its start is not 0. Assumes nothing.
use Rattle.std.proofs.Common.{ap}
use Rattle.ibft_layout.specs.declared.shape.Shape.{Shape}
use Rattle.ibft_compare.proofs.PointLaws.{presence-met}
use Rattle.ibft_compare.proofs.walk.Tables.meet_presence.Goals as goal

pub returns : goal.returns
returns c =
    let a = c.args in
    let kind = c.kind_of-kind.ensures in
    presence-met a.self.now.left.bytes.now a.self.now.right.bytes.now a.pair a.met _ _ (ap (λ (k : Shape). k.id) kind) _ _ _ _ _ _
    c.start-l.ensures
    c.start-r.ensures
    (ap (λ (k : Shape). k.length) kind)
    c.only_one.ensures
    c.structure_stretch.ensures
    c.structure_stretch-2.ensures
    c.then.ensures.0
