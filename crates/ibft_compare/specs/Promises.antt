-- What comparing promises. Nothing but the promises stands here. (One difference promises an equation, `r ≡ difference_of left
-- right k`.)
use Rattle.std.specs.Prelude.{◌≡◌, ◌↔◌, List, [], ◌∷◌, map, ℕ, ◌<◌}
use Rattle.std.specs.Borrow.{Bor}
use Rattle.octets.specs.View.{Shows}
use Rattle.table_header.specs.Verdict.{Accepted}
use Rattle.ibft_table.specs.Check.{check_of}
use Rattle.ibft_table.specs.Record.{record_of}
use Rattle.ibft_compare.specs.Points.{name_of, turn_of}
use Rattle.ibft_compare.specs.Compare.{list_of, compared_of, shown_of, view_of}
use Rattle.ibft_compare.specs.declared.difference.Compared.{Compared}

-- each number is below the next
pub data Rising : List ℕ → Type 0 where
  none : Rising []
  last : {a : ℕ} → Rising (a ∷ [])
  next : {a b : ℕ} {s : List ℕ} → a < b → Rising (b ∷ s) → Rising (a ∷ b ∷ s)

-- the differences of two tables
pub record Compares (left right : List ℕ) (answer : Compared) : Type 0 where
  -- the answer is the definition's
  pub answer-is : answer ≡ compared_of left right
  -- neither refused: none exactly where both read as the same record
  pub none-same : check_of left ≡ Accepted → check_of right ≡ Accepted → (answer.count ≡ 0) ↔ (record_of left ≡ record_of right)
  -- in the order named, by what they are called: so each once
  pub in_order : Rising (map turn_of (map name_of (list_of left right)))
  -- refused: none
  pub refused : (answer.refusal.number ≡ 0 → ⊥) → answer.count ≡ 0

-- the differing bytes of difference k, shown from the left table
pub record DifferenceView (left : Bor (List ℕ)) (right : List ℕ) (k : ℕ) (view : Bor (List ℕ)) : Type 0 where
  -- the bytes are the definition's
  pub view-is : view.now ≡ view_of left.now right k
  -- an entry that the left table has: that stretch of it
  pub shows : ((shown_of left.now right k).start ≡ 0 → ⊥)
      → Shows left view (shown_of left.now right k).start (shown_of left.now right k).length
  -- else, and refused: empty; where it stands is free
  pub empty : (shown_of left.now right k).start ≡ 0 → view.now ≡ []
