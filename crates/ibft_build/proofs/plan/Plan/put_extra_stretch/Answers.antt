-- `Plan::put_extra_stretch` meets its contract: without extras its structure is absent. Assumes nothing.
use Rattle.std.proofs.Common.{refl, sym, ◌∙◌}
use Rattle.ibft_record.proofs.RecordLaws.{extras-none}
use Rattle.ibft_build.proofs.StructureLaws.{stretch-off}
use Rattle.ibft_build.proofs.plan.Plan.put_extra_stretch.Goals as goal

pub returns-else-extras_given-ne0 : goal.returns-else-extras_given-ne0
returns-else-extras_given-ne0 c =
    let none = sym c.extras_given.ensures.0 ∙ c.if-extras_given-ne0.false in
    stretch-off _ _ _ _ _ _ refl (extras-none _ none _ c.requires.1) _
