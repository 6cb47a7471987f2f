-- `Plan::put_behind` meets its contract: the structure stands right behind the gap. Assumes nothing.
use Rattle.std.proofs.Common.{refl, ap, arith}
use Rattle.ibft_layout.specs.declared.shape.Shape.{Shape}
use Rattle.ibft_build.proofs.StructureLaws.{behind-is}
use Rattle.ibft_build.proofs.plan.Plan.put_behind.Goals as goal

pub returns : goal.returns
returns c =
    let p = c.requires in
    let size = ap (λ (x : Shape). x.length) c.kind_of.ensures in
    behind-is _ _ _ _ p.3 (c.args.self.now.entries.readable.whole.images _ p.2) _ _ _ _ _ _ _ c.aligned-start.ensures size refl
    (omega (arith, p.1)) c.put_zeros.ensures c.put_structure.ensures
