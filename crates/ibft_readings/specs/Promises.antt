-- What the views of a structure and of an entry promise. Nothing but the promises stands here. (A reading of fields and the
-- login order promise an equation with their definition: `r ≡ target_of t n`, `r ≡ login_order_of t`.)
use Rattle.std.specs.Prelude.{◌≡◌, List, [], ℕ, ◌-◌, length}
use Rattle.std.specs.Borrow.{Bor}
use Rattle.octets.specs.View.{Shows}
use Rattle.ibft_readings.specs.Readings.{structure_of, structure_view_of, entry_of, view_of}

-- the structure that callers call `number` shown, with all that stands behind it
pub record StructureView (lent : Bor (List ℕ)) (number : ℕ) (view : Bor (List ℕ)) : Type 0 where
  -- its bytes are the definition's
  pub view-is : view.now ≡ structure_view_of lent.now number
  -- present: the lent table from its start on
  pub shows : (structure_of lent.now number).refusal.number ≡ 0
      → Shows lent view (structure_of lent.now number).start (length lent.now - (structure_of lent.now number).start)
  -- refused: empty; where it stands is free
  pub refused : ((structure_of lent.now number).refusal.number ≡ 0 → ⊥) → view.now ≡ []

-- the entry that callers call `number` shown
pub record EntryView (lent : Bor (List ℕ)) (number : ℕ) (view : Bor (List ℕ)) : Type 0 where
  -- its bytes are the definition's
  pub view-is : view.now ≡ view_of lent.now number
  -- present: that stretch of the lent table
  pub shows : (entry_of lent.now number).refusal.number ≡ 0
      → Shows lent view (entry_of lent.now number).offset (entry_of lent.now number).length
  -- refused: empty; where it stands is free
  pub refused : ((entry_of lent.now number).refusal.number ≡ 0 → ⊥) → view.now ≡ []
