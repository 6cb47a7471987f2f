-- `Tables::entry_differs` meets its contract: missing against present is a difference; where both are there their bytes are
-- compared. Assumes nothing.
use mathlib.Core.Path.{refl, sym, ap₂, ◌∙◌}
use Rattle.ibft_compare.specs.Differences.{unequal}
use Rattle.ibft_compare.specs.Walk.{only_one}
use Rattle.ibft_compare.proofs.walk.Tables.entry_differs.Goals as goal

pub returns-then-only_one : goal.returns-then-only_one
returns-then-only_one c =
    rw (sym (ap₂ only_one c.holds-l.ensures c.holds.ensures)
    ∙ sym c.only_one.ensures ∙ c.if-only_one.true) refl

pub returns-then-not-l : goal.returns-then-not-l
returns-then-not-l c =
    let l = c.holds-l.ensures in
    rw (
      sym (ap₂ only_one l c.holds.ensures) ∙ sym c.only_one.ensures
          ∙ c.if-only_one.false,
      sym l ∙ c.if-not-l.true,
    ) refl

pub returns : goal.returns
returns c =
    let l = c.holds-l.ensures in
    rw (
      sym (ap₂ only_one l c.holds.ensures) ∙ sym c.only_one.ensures ∙ c.if-only_one.false,
      sym l ∙ c.if-not-l.false,
    )
    (c.unequal.ensures ∙ ap₂ unequal c.entry.ensures c.entry-2.ensures)
