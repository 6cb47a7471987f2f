-- `entry_given` meets its contract: the structure is absent, or the mark decides. Assumes nothing.
use mathlib.Core.Path.{sym, ◌∙◌}
use Rattle.ibft_record.proofs.RecordLaws.{entry-marked, entry-off}
use Rattle.ibft_record.proofs.record.entry_given.Goals as goal

pub returns-then-structure_given : goal.returns-then-structure_given
returns-then-structure_given c =
    let owner = c.owner_of.ensures in
    let on = sym c.structure_given.ensures ∙ c.if-structure_given.true in
    entry-marked _ _ _ owner on _ _ c.mark_at.ensures c.byte_at.ensures

pub returns : goal.returns
returns c =
    let owner = c.owner_of.ensures in
    entry-off _ _ _ owner (sym c.structure_given.ensures ∙ c.if-structure_given.false)
