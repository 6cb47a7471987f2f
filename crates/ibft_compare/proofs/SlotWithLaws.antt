-- Laws of `slot_with`: where the extra of a group and Index stands, in a table with these Indexes by slot.
--     slot-with-found     below `slot_count`: a slot of the group, where that Index stands
--     slot-with-most      never above `slot_count`
--     slot-with-none      `slot_count` where none of the six has it
--     slot-with-at        the first of the six that has it
-- Assumes nothing.
use mathlib.Core.Path.{◌≡◌, ap, ◌∙◌}
use mathlib.Core.Bool.{Bool}
use mathlib.Core.List.{List}
use Prim.Native.Nat.{ℕ, ◌+◌, ◌≤◌, ◌<◌}
use native.Mathlib.Decide.{dec_lt}
use native.Mathlib.Omega.{arith}
use borrow.Author.Tests.{lt-ltb, le-ltb, eq-eqb, ne_eqb, eqb-true}
use lib.ListN.{get_or}
use lib.Dec.{eqb}
use Rattle.octets.specs.Counting.{first}
use Rattle.octets.proofs.CountingLaws.{first-is, first-hit}
use Rattle.ibft_layout.specs.Layout.{slot_count, extra_most}
use Rattle.ibft_compare.specs.Pairs.{slot_as, slot_with}

-- of the i-th slot of a group, and where i is past the last
as-slot : (group i : ℕ) → i < extra_most → slot_as group i ≡ group + i
unfolding slot_as
as-slot group i h = rw (lt-ltb i extra_most h)

as_none : (group i : ℕ) → extra_most ≤ i → slot_as group i ≡ slot_count
unfolding slot_as
as_none group i h = rw (le-ltb i extra_most h)

module _ (indices : List ℕ) (group index : ℕ) where
  -- which of the six slots of the group has that Index
  abbrev has : ℕ → Bool
  has i = eqb (get_or indices (group + i) 0) index

  which : ℕ
  which = first extra_most has

  pub record Found : Type 0 where
    pub place : ℕ
    pub below : place < extra_most
    pub slot : slot_with indices group index ≡ group + place
    pub there : get_or indices (group + place) 0 ≡ index

  pub slot-with-found : slot_with indices group index < slot_count → Found
  unfolding slot_with which
  slot-with-found h =
      elim (dec_lt which extra_most) [
        | yes l ↦ record {
          place = which;
          below = l;
          slot = as-slot group which l;
          there = eqb-true (get_or indices (group + which) 0) index (first-hit extra_most has l);
        }
        | no l ↦ absurd (omega (arith, as_none group which (omega arith)))
      ]

  pub slot-with-most : group + extra_most ≤ slot_count → slot_with indices group index ≤ slot_count
  unfolding slot_with which
  slot-with-most fits =
      elim (dec_lt which extra_most) [
        | yes l ↦ omega (arith, as-slot group which l)
        | no l ↦ omega (arith, as_none group which (omega arith))
      ]

  pub slot-with-none : ((i : ℕ) → i < extra_most → get_or indices (group + i) 0 ≡ index → ⊥) → slot_with indices group index ≡ slot_count
  unfolding slot_with
  slot-with-none none =
      ap (slot_as group)
      (first-is extra_most has extra_most (omega arith) (λ j l. ne_eqb (get_or indices (group + j) 0) index (none j l)) (λ l. absurd (omega arith)))
      ∙ as_none group extra_most (omega arith)

  pub slot-with-at : (i : ℕ) → i < extra_most → ((j : ℕ) → j < i → get_or indices (group + j) 0 ≡ index → ⊥) → get_or indices (group + i) 0 ≡ index
      → slot_with indices group index ≡ group + i
  unfolding slot_with
  slot-with-at i h before there =
      ap (slot_as group)
      (first-is extra_most has i (omega arith) (λ j l. ne_eqb (get_or indices (group + j) 0) index (before j l))
      (λ l. eq-eqb (get_or indices (group + i) 0) index there))
      ∙ as-slot group i h
