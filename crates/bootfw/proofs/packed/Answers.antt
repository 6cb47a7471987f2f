-- `packed` meets its contract: the three parts stand beside one another. Assumes nothing.
use mathlib.Core.Path.{refl}
use Rattle.bootfw.proofs.PackLaws.{packs}
use borrow.Author.Rules.{rules}
use Rattle.bootfw.proofs.packed.Goals as goal

pub returns : goal.returns
returns c = packs _ _ _ _ (search rules) (search rules) refl
