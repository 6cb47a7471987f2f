-- `stray_line` meets its contract. Assumes nothing.
use mathlib.Core.Path.{ap, ◌∙◌}
use Prim.Native.Nat.{ℕ}
use Rattle.text.specs.Split.{pieces}
use Rattle.family_text.specs.Family.{stray_from, stray_in, stray_read}
use Rattle.family_text.proofs.family.stray_line.Goals as goal

pub returns : goal.returns
unfolding stray_in
returns c = c.stray_from.ensures ∙ ap (λ (f : ℕ). stray_read (stray_from f 1 (pieces 10 c.args.text.now))) c.family_of.ensures
