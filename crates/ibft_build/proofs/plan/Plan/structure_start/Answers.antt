-- `Plan::structure_start` meets its contract: a present structure starts at the next multiple of 8 behind those of earlier
-- turns. Assumes nothing.
use Rattle.std.proofs.Common.{sym, ◌∙◌, arith}
use Rattle.ibft_build.proofs.StartLaws.{ends_at, ends-bound, start-on, start-off}
use Rattle.ibft_build.proofs.plan.Plan.structure_start.Goals as goal

pub aligned-requires : goal.aligned-requires
aligned-requires c = omega (arith, ends-bound _ _ c.args.self.now.planned.ends-are c.turn_of.result c.turn_of.ensures.1)

pub returns-then-structure_given : goal.returns-then-structure_given
returns-then-structure_given c =
    let turn = c.turn_of.ensures in
    start-on _ _ (sym c.structure_given.ensures ∙ c.if-structure_given.true) _ _ turn.0
    (ends_at _ _ c.args.self.now.planned.ends-are _ turn.1) _ c.aligned.ensures

pub returns : goal.returns
returns c = start-off _ _ (sym c.structure_given.ensures ∙ c.if-structure_given.false)
