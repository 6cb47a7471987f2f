-- `Tables::field_differs` meets its contract: a start of 0 means that the structure is absent. Assumes nothing.
use mathlib.Core.Path.{refl, ap₂, ◌∙◌}
use Rattle.octets.proofs.TestLaws.{same_differs, unlike-differs}
use Rattle.ibft_compare.specs.Differences.{unequal}
use Rattle.ibft_compare.proofs.walk.Tables.field_differs.Goals as goal

pub returns-then-l-eq0 : goal.returns-then-l-eq0
returns-then-l-eq0 c = rw (same_differs c.args.l 0 c.if-l-eq0.true) refl

pub returns-then-r-eq0 : goal.returns-then-r-eq0
returns-then-r-eq0 c =
    let a = c.args in
    rw (unlike-differs a.l 0 c.if-l-eq0.false, same_differs a.r 0 c.if-r-eq0.true) refl

pub returns : goal.returns
returns c =
    let a = c.args in
    rw (unlike-differs a.l 0 c.if-l-eq0.false, unlike-differs a.r 0 c.if-r-eq0.false)
    (c.unequal.ensures ∙ ap₂ unequal c.part.ensures.bytes c.part-2.ensures.bytes)
