-- Secrets with their own bytes: a table gives them their own exactly where each that is present stands apart from every other
-- entry.
--     apart-secret, secrets-apart     the two ways
--     apart-entries                   any two entries stand apart of which one may not share
-- Assumes nothing.
use mathlib.Core.Path.{◌≡◌, refl, sym, ap, ◌∙◌}
use mathlib.Core.Logic.{inl, inr, ⊎_elim}
use mathlib.Core.Bool.{Bool, true, false, not, ◌&&◌}
use mathlib.Core.List.{List}
use Prim.Native.Nat.{ℕ, ◌+◌, ◌<◌}
use native.Mathlib.Omega.{arith}
use borrow.Author.Tests.{ltb-false, le-ltb, not-true, not-false}
use lib.Dec.{ltb}
use Rattle.octets.specs.Counting.{any}
use Rattle.octets.specs.Octets.{differs}
use Rattle.octets.proofs.CountingLaws.{clash, any_none, any-no}
use Rattle.octets.proofs.TestLaws.{and_both, and-other, and_no, same_differs, unlike-differs}
use Rattle.string_heap.proofs.Intervals.{Apart}
use Rattle.ibft_layout.specs.Layout.{entry_count, string_of, may_share}
use Rattle.ibft_table.specs.Table.{starts_of, size_of, offset_of, holds_entry}
use Rattle.ibft_table.specs.Secrets.{overlaps, shared_if, shared, apart_in, secrets_apart}

-- ---- two stretches share a byte where each starts before the other ends

apart-ends : (lo hi lo' hi' : ℕ) → (ltb lo hi' && ltb lo' hi) ≡ false → Apart lo hi lo' hi'
apart-ends lo hi lo' hi' e = go (ltb lo hi') refl
  where
    go : (b : Bool) → ltb lo hi' ≡ b → Apart lo hi lo' hi'
    go true on = inl (omega (arith, ltb-false lo' hi (and-other (ltb lo hi') (ltb lo' hi) e on)))
    go false off = inr (omega (arith, ltb-false lo hi' off))

ends-apart : (lo hi lo' hi' : ℕ) → Apart lo hi lo' hi' → (ltb lo hi' && ltb lo' hi) ≡ false
ends-apart lo hi lo' hi' apart =
    and_no (ltb lo hi') (ltb lo' hi)
    (λ on. ⊎_elim (λ h. le-ltb lo' hi h) (λ h. clash on (le-ltb lo hi' h)) apart)

-- ---- entries

module _ (t : List ℕ) where
  -- entries i and j with their zeros have no byte in common
  abbrev pub EntriesApart : ℕ → ℕ → Type 0
  EntriesApart i j = Apart (offset_of t i) (offset_of t i + size_of t i + 1) (offset_of t j) (offset_of t j + size_of t j + 1)

  pub apart-secret : secrets_apart t ≡ true → (i j : ℕ) → i < entry_count → j < entry_count → (i ≡ j → ⊥)
      → may_share i ≡ false → holds_entry t i ≡ true → holds_entry t j ≡ true → EntriesApart i j
  unfolding secrets_apart apart_in shared shared_if overlaps may_share
  apart-secret apart i j hi hj ne alone oni onj =
      let starts = starts_of t in
      let none = any_none entry_count (shared starts t) (not-true _ apart) i hi in
      let secret : ((string_of i).secret && holds_entry t i) ≡ true = rw (not-false (string_of i).secret alone, oni) in
      let clear : any entry_count (overlaps starts t i) ≡ false = sym (ap (shared_if starts t i) secret) ∙ none in
      let other = and-other (differs i j) _ (any_none entry_count (overlaps starts t i) clear j hj) (unlike-differs i j ne) in
      apart-ends _ _ _ _ (and-other (holds_entry t j) _ other onj)

  pub secrets-apart : ((i j : ℕ) → i < entry_count → j < entry_count → (i ≡ j → ⊥)
      → may_share i ≡ false → holds_entry t i ≡ true → holds_entry t j ≡ true → EntriesApart i j) → secrets_apart t ≡ true
  unfolding secrets_apart apart_in shared shared_if overlaps may_share
  secrets-apart all =
      ap not (any-no entry_count (shared (starts_of t) t) (λ i hi. go i hi ((string_of i).secret && holds_entry t i) refl))
    where
      go : (i : ℕ) → i < entry_count → (b : Bool) → ((string_of i).secret && holds_entry t i) ≡ b → shared_if (starts_of t) t i b ≡ false
      go i hi false e = refl
      go i hi true e =
          let w = and_both (string_of i).secret (holds_entry t i) e in
          any-no entry_count (overlaps (starts_of t) t i)
          (λ j hj. and_no (differs i j) _
          (λ ne. and_no (holds_entry t j) _
          (λ onj. ends-apart _ _ _ _
          (all i j hi hj (λ same. clash ne (same_differs i j same)) (ap not w.0) w.1 onj))))

  -- of two entries one may not share, whichever it is
  pub apart-entries : secrets_apart t ≡ true → (i j : ℕ) → i < j → j < entry_count → (may_share i && may_share j) ≡ false
      → holds_entry t i ≡ true → holds_entry t j ≡ true → EntriesApart i j
  apart-entries apart i j l h alone oni onj = go (may_share i) refl
    where
      turn : {lo hi lo' hi' : ℕ} → Apart lo hi lo' hi' → Apart lo' hi' lo hi
      turn p = ⊎_elim (λ x. inr x) (λ x. inl x) p

      go : (b : Bool) → may_share i ≡ b → EntriesApart i j
      go false own = apart-secret apart i j (omega arith) h (λ e. absurd (omega arith)) own oni onj
      go true may = turn (apart-secret apart j i h (omega arith) (λ e. absurd (omega arith)) (and-other (may_share i) (may_share j) alone may) onj oni)
