-- `field` meets its contract, by computation. Assumes nothing.
use mathlib.Core.Path.{refl}
use Rattle.family_text.proofs.fields.field.Goals as goal

pub returns : goal.returns
returns c = refl
