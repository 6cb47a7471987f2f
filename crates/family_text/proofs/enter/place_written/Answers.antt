-- `place_written` meets its contract. Assumes nothing.
use mathlib.Core.Path.{ap, ◌∙◌}
use Prim.Native.Nat.{◌-◌}
use native.Mathlib.Omega.{arith}
use Rattle.sbft.specs.declared.layout.Part.{Part}
use Rattle.family_text.proofs.EnterLaws.{place-start, place-part, place-low}
use Rattle.family_text.proofs.enter.place_written.Goals as goal

pub returns-then-part-eq0 : goal.returns-then-part-eq0
returns-then-part-eq0 c = (place-start _ c.if-part-eq0.true, omega arith)

pub returns : goal.returns
returns c =
    let place = ap (λ (x : Part). x.place) c.part_of.ensures in
    (place ∙ place-part _ c.if-part-eq0.false, omega (arith, place, place-low (c.args.part - 1)))
