-- `begins` meets its contract: as many bytes are compared. Assumes nothing.
use mathlib.Core.Path.{ap, ◌∙◌}
use mathlib.Core.List.{List}
use Prim.Native.Nat.{ℕ}
use Rattle.text.specs.Split.{same}
use Rattle.family_text.specs.Family.{begins}
use Rattle.family_text.proofs.family.begins.Goals as goal

pub returns : goal.returns
unfolding begins
returns c = c.same.ensures ∙ ap (λ (x : List ℕ). same x c.args.front.now) c.part.ensures.bytes
