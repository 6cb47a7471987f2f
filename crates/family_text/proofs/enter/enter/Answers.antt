-- `enter` meets its contract: the image is made blank, then the lines are read. Assumes nothing.
use mathlib.Core.Path.{refl}
use Rattle.octets.specs.Octets.{zeros}
use Rattle.family_text.proofs.EnterLaws.{enters}
use Rattle.family_text.proofs.enter.enter.Goals as goal

pub returns : goal.returns
unfolding zeros
returns c =
    enters _ _ _ _ _ _ _ _ c.put_zeros.ensures refl c.enter_lines.ensures
