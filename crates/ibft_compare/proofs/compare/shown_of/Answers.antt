-- `shown_of` meets its contract, by cases of the difference. Assumes nothing.
use Rattle.std.proofs.Common.{◌≡◌, refl, ◌∙◌, ℕ}
use Rattle.ibft_compare.specs.Differences.{nothing}
use Rattle.ibft_compare.specs.Walk.{shown_by}
use Rattle.ibft_compare.specs.declared.difference.Difference.{Difference}
use Rattle.ibft_compare.specs.declared.difference.Difference.TheVariants.{Nothing, OemId, OemTableId, ControlFlags, Presence, Field, Entry}
use Rattle.ibft_compare.specs.declared.difference.Stretch.{Stretch}
use Rattle.ibft_compare.proofs.compare.shown_of.Goals as goal

-- of no difference but an entry is something shown
no-entry : (d : Difference) (shown : Stretch) → ((id index at : ℕ) → d ≡ Entry id index at → ⊥) → nothing ≡ shown_by d shown
unfolding shown_by
no-entry Nothing shown k = refl
no-entry OemId shown k = refl
no-entry OemTableId shown k = refl
no-entry ControlFlags shown k = refl
no-entry (Presence id index) shown k = refl
no-entry (Field id index at) shown k = refl
no-entry (Entry id index at) shown k = absurd (k id index at refl)

pub unequal_part-requires : goal.unequal_part-requires
unfolding shown_by
unequal_part-requires c = rw c.in-Entry.is at c.requires

pub returns-in-Entry : goal.returns-in-Entry
unfolding shown_by
returns-in-Entry c = rw c.in-Entry.is c.unequal_part.ensures

pub returns-in_default : goal.returns-in_default
returns-in_default c = c.no_stretch.ensures ∙ no-entry _ _ c.in_default.not-Entry
