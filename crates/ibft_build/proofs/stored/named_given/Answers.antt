-- `named_given` meets its contract: the mark of the entry's structure says that it is absent, or the entry's own decides.
-- Assumes nothing.
use mathlib.Core.Path.{sym, ◌∙◌}
use native.Mathlib.Omega.{arith}
use borrow.Author.Tests.{eq-eqb, ne_eqb}
use Rattle.ibft_layout.proofs.LayoutLaws.{owner-named}
use Rattle.ibft_build_rules.proofs.RecordRangeLaws.{given-named, mark-named}
use Rattle.ibft_record.proofs.RecordLaws.{entry-marked, entry-off}
use Rattle.ibft_build.proofs.stored.named_given.Goals as goal

pub returns-then-byte_at-ne1 : goal.returns-then-byte_at-ne1
returns-then-byte_at-ne1 c =
    let owner = c.owner_of.ensures in
    let low = owner-named _ c.requires in
    entry-off _ _ _ owner (sym (given-named _ _ (omega arith)) ∙ ne_eqb _ 1 (λ e. c.if-byte_at-ne1.true (c.byte_at.ensures ∙ e)))

pub returns : goal.returns
returns c =
    let owner = c.owner_of.ensures in
    let low = owner-named _ c.requires in
    entry-marked _ _ _ owner (sym (given-named _ _ (omega arith))
    ∙ eq-eqb _ 1 (sym c.byte_at.ensures ∙ c.if-byte_at-ne1.false)) _ _ (mark-named _ _ c.requires)
    c.byte_at-2.ensures
