-- `check_of` meets its contract, family by family. Assumes nothing.
use mathlib.Core.Path.{◌∙◌}
use Rattle.family_text.proofs.TellLaws.{verdict-sbft, verdict-abft}
use Rattle.family_text.proofs.tell.check_of.Goals as goal

pub returns-then-family-eq-SBFT : goal.returns-then-family-eq-SBFT
returns-then-family-eq-SBFT c = c.check.ensures.verdict-is ∙ verdict-sbft _ _ c.if-family-eq-SBFT.true

pub returns : goal.returns
returns c = c.check-2.ensures.verdict-is ∙ verdict-abft _ _ c.if-family-eq-SBFT.false
