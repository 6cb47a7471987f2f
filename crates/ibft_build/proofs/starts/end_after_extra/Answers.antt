-- `end_after_extra` meets its contract: without extras the structure is absent. Assumes nothing.
use mathlib.Core.Path.{refl, sym, ◌∙◌}
use Rattle.ibft_record.proofs.RecordLaws.{extras-none}
use Rattle.ibft_build.proofs.StartLaws.{after-off}
use Rattle.ibft_build.proofs.starts.end_after_extra.Goals as goal

pub returns-then-extras_given-eq0 : goal.returns-then-extras_given-eq0
returns-then-extras_given-eq0 c = after-off _ _ _ _ refl (extras-none _ (sym c.extras_given.ensures.0 ∙ c.if-extras_given-eq0.true) _ c.requires.1)
