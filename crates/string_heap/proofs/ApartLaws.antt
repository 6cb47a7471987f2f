-- An entry that may not share has its own bytes in the heap that the build writes: it is its own holder, no other entry has it
-- as a holder, and stretches of different holders are apart.
--     holder-may          an entry's holder is itself, or both may share
--     inside-holder       an entry and its zero lie in its holder's stretch
--     placed-apart      an entry that may not share and any other stand apart, zeros included
-- Assumes nothing.
use Rattle.std.specs.Prelude.{Some}
use mathlib.Core.Path.{◌≡◌, sym, ap, ap₂, ◌∙◌}
use mathlib.Core.Logic.{◌⊎◌, inl, inr, ⊎_elim}
use mathlib.Core.Bool.{Bool, true, false, ◌&&◌, ◌||◌}
use mathlib.Core.List.{List}
use Prim.Native.Nat.{ℕ, ◌+◌, ◌≤◌, ◌<◌}
use native.Mathlib.Omega.{arith}
use native.Mathlib.Decide.{dec_lt}
use lib.Dec.{eqb}
use lib.ListN.{length}
use borrow.Author.Tests.{eqb-true}
use Rattle.octets.specs.Counting.{sum_to}
use Rattle.octets.proofs.CountingLaws.{first-hit, clash}
use Rattle.octets.proofs.TestLaws.{and_both}
use Rattle.string_heap.specs.Stored.{Entry, of_stored, size, stored}
use Rattle.string_heap.specs.Places.{ends_with, holds, holder, len, place}
use Rattle.string_heap.proofs.Intervals.{sum_to-mono, Apart}
use Rattle.string_heap.proofs.HolderLaws.{either, held}

module _ (n : ℕ) (shares : ℕ → Bool) (e : ℕ → Entry) where
  pub holder-may : (i : ℕ) (a : List ℕ) → i < n → e i ≡ Some a
      → (i ≡ holder n shares e i a) ⊎ ((shares i ≡ true) × (shares (holder n shares e i a) ≡ true))
  unfolding holder holds
  holder-may i a h ei =
      let j : ℕ = holder n shares e i a in
      let hit = first-hit n (holds n shares e i a) (held n shares e i a h ei).below in
      let w = and_both (stored n shares e j && ends_with a (e j)) (eqb i j || (shares i && shares j)) hit in
      ⊎_elim (λ z. inl (eqb-true i j z)) (λ z. inr (and_both (shares i) (shares j) z)) (either (eqb i j) (shares i && shares j) w.1)

  -- what stands before entry k in the heap
  abbrev before : ℕ → ℕ
  before k = sum_to k (λ (j : ℕ). size n shares e j)

  pub inside-holder : (i : ℕ) (a : List ℕ) → i < n → e i ≡ Some a
      → (before (holder n shares e i a) ≤ place n shares e i a)
      × (place n shares e i a + length a + 1 ≤ before (holder n shares e i a) + size n shares e (holder n shares e i a))
  unfolding place of_stored len
  inside-holder i a h ei =
      let w = held n shares e i a h ei in
      let fits = w.ends.fits in
      let lb : len (e (holder n shares e i a)) ≡ length w.b = ap len w.is in
      let sz : size n shares e (holder n shares e i a) ≡ length w.b + 1 =
      ap₂ (λ (o : Entry) (s : Bool). of_stored o s (λ (a : List ℕ). length a + 1)) w.is w.kept in
      (omega arith, omega arith)

  pub placed-apart : (i j : ℕ) (a b : List ℕ) → i < n → j < n → (i ≡ j → ⊥) → e i ≡ Some a → e j ≡ Some b → shares i ≡ false
      → Apart (place n shares e i a) (place n shares e i a + length a + 1) (place n shares e j b) (place n shares e j b + length b + 1)
  placed-apart i j a b hi hj ne ei ej alone =
      let p = inside-holder i a hi ei in
      let q = inside-holder j b hj ej in
      let own : i ≡ holder n shares e i a = ⊎_elim (λ z. z) (λ w. clash w.0 alone) (holder-may i a hi ei) in
      let other : i ≡ holder n shares e j b → ⊥ =
      λ z. ⊎_elim (λ y. ne (z ∙ sym y)) (λ w. clash w.1 (sym (ap shares z) ∙ alone)) (holder-may j b hj ej) in
      elim (dec_lt (holder n shares e i a) (holder n shares e j b)) [
        | yes l ↦ inl (omega (arith, p.1, q.0, sum_to-mono (λ (j : ℕ). size n shares e j) (holder n shares e i a) (holder n shares e j b) l))
        | no l ↦ elim (dec_lt (holder n shares e j b) (holder n shares e i a)) [
          | yes m ↦ inr (omega (arith, p.0, q.1, sum_to-mono (λ (j : ℕ). size n shares e j) (holder n shares e j b) (holder n shares e i a) m))
          | no m ↦ absurd (other (omega arith))
        ]
      ]
