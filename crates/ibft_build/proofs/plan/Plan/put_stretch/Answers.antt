-- `Plan::put_stretch` meets its contract: an absent structure writes nothing. Assumes nothing.
use Rattle.std.proofs.Common.{sym, ◌∙◌, arith}
use Rattle.ibft_build.proofs.StartLaws.{ends-bound}
use Rattle.ibft_build.proofs.StructureLaws.{stretch-on, stretch-off, stretch-fits}
use Rattle.ibft_build.proofs.plan.Plan.put_stretch.Goals as goal

pub put_behind-requires : goal.put_behind-requires
put_behind-requires c =
    let p = c.requires in
    let are = c.args.self.now.planned.ends-are in
    let slot = c.built_slot-k.ensures.0 in
    let on = sym c.structure_given.ensures ∙ c.if-structure_given.true in
    let fits = stretch-fits _ _ _ _ slot are p.0 on in
    let near = ends-bound _ _ are c.args.j (omega arith) in
    (omega arith, omega arith, on, c.built_slot-k.ensures.1)

pub returns-then-structure_given : goal.returns-then-structure_given
returns-then-structure_given c =
    stretch-on _ _ _ _ _ _ c.built_slot-k.ensures.0 c.args.self.now.planned.ends-are c.requires.0
    (sym c.structure_given.ensures ∙ c.if-structure_given.true) _ _ c.put_behind.ensures

pub returns-else-structure_given : goal.returns-else-structure_given
returns-else-structure_given c = stretch-off _ _ _ _ _ _ c.built_slot-k.ensures.0 (sym c.structure_given.ensures ∙ c.if-structure_given.false) _
