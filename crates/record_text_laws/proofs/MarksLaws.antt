-- Marks of numbers. Numbers that go up are marked each once, so the one that has rank q among them has q marks below it. And a
-- mark that is set in a list of bytes is there, as are those that were there before.
--     marked                      which numbers are marked: the first m of a list
--     marked-in, marked-each      each of them is, and no other
--     marks-below, marks-all      how many are marked below one of them, and in all
--     write-mark, write-other     a mark in a list of bytes
-- Assumes nothing.
use mathlib.Core.Path.{◌≡◌, refl, sym, ◌∙◌}
use mathlib.Core.List.{List, [], ◌∷◌}
use mathlib.Core.Bool.{Bool, true, false, ◌||◌}
use Prim.Native.Nat.{ℕ, zero, suc, ◌≤◌, ◌<◌}
use native.Mathlib.Nat.{add-zero}
use native.Mathlib.Decide.{dec_lt}
use native.Mathlib.Omega.{arith}
use borrow.Author.Tests.{eqb-true, eq-eqb, ne_eqb}
use lib.ListN.{length}
use lib.Dec.{eqb}
use Rattle.octets.specs.Counting.{count}
use Rattle.octets.specs.Octets.{byte, write}
use Rattle.octets.proofs.CountLaws.{count_none, count_same, count-one}
use Rattle.octets.proofs.CutLaws.{count_cut}
use Rattle.octets.proofs.WriteLaws.{write-before, write-after, write-at}

module _ (e : ℕ → ℕ) where
  -- number j is one of the first m
  unfoldable pub marked : ℕ → ℕ → Bool
  marked zero j = false
  marked (suc m) j = eqb (e m) j || marked m j

  pub marked-in : (m q : ℕ) → q < m → marked m (e q) ≡ true
  unfolding marked
  marked-in zero q h = absurd (omega arith)
  marked-in (suc m) q h =
      elim (dec_lt q m) [
        | yes l ↦ go (eqb (e m) (e q)) (marked-in m q l)
        | no l ↦ let same : q ≡ m = omega arith in rw (same, eq-eqb (e m) (e m) refl)
      ]
    where
      go : (b : Bool) → marked m (e q) ≡ true → (b || marked m (e q)) ≡ true
      go true h = refl
      go false h = h

  pub marked-each : (P : ℕ → Type 0) (m : ℕ) → ((q : ℕ) → q < m → P (e q)) → (j : ℕ) → marked m j ≡ true → P j
  unfolding marked
  marked-each P zero each j h = absurd (let z : ◌≡◌ {A = ℕ} 0 1 = cc in omega arith)
  marked-each P (suc m) each j h = go (eqb (e m) j) refl h (marked-each P m (λ q l. each q (omega arith)) j)
    where
      go : (b : Bool) → eqb (e m) j ≡ b → (b || marked m j) ≡ true → (marked m j ≡ true → P j) → P j
      go true s h rest = rw (← eqb-true (e m) j s) (each m (omega arith))
      go false s h rest = rest h

  marked-not : (m j : ℕ) → ((q : ℕ) → q < m → e q ≡ j → ⊥) → marked m j ≡ false
  unfolding marked
  marked-not zero j none = refl
  marked-not (suc m) j none = rw (ne_eqb (e m) j (none m (omega arith))) (marked-not m j (λ q h. none q (omega arith)))

  -- .. of numbers that go up
  module _ (m : ℕ) (up : (q : ℕ) → suc q < m → e q < e (suc q)) where
    later : (q p : ℕ) → q < p → p < m → e q < e p
    later q zero h l = absurd (omega arith)
    later q (suc p) h l =
        elim (dec_lt q p) [
          | yes k ↦ omega (arith, later q p k (omega arith), up p l)
          | no k ↦ let same : q ≡ p = omega arith in rw same (up p l)
        ]

    count-marked : (k n : ℕ) → k ≤ m → ((q : ℕ) → q < k → e q < n) → count n (marked k) ≡ k
    unfolding marked
    count-marked zero n h below = count_cut 0 n (marked 0) (omega arith) (λ j l g. refl) ∙ count_none (marked 0)
    count-marked (suc k) n h below =
        let rest = count-marked k n (omega arith) (λ q l. below q (omega arith)) in
        let own = marked-not k (e k) (λ q l same. omega (arith, same, later q k l h)) in
        let one = count-one n (marked (suc k)) (marked k) (e k) (below k (omega arith)) (marked-in (suc k) k (omega arith)) own
        (λ j l other. rw (ne_eqb (e k) j (λ same. other (sym same)))) in
        omega (arith, one, rest)

    -- below number q only the first q are marked
    marked-low : (k q : ℕ) → q ≤ k → k ≤ m → q < m → (j : ℕ) → j < e q → marked k j ≡ marked q j
    unfolding marked
    marked-low zero q h l r j low = let same : q ≡ 0 = omega arith in rw same
    marked-low (suc k) q h l r j low =
        elim (dec_lt k q) [
          | yes s ↦ let same : q ≡ suc k = omega arith in rw same
          | no s ↦
              let high : e q ≤ e k = elim (dec_lt q k) [
                | yes a ↦ omega (arith, later q k a l)
                | no a ↦ let same : q ≡ k = omega arith in rw same (omega arith)
              ] in
              rw (ne_eqb (e k) j (omega (arith, high))) (marked-low k q (omega arith) (omega arith) r j low)
        ]

    pub marks-below : (q : ℕ) → q < m → count (e q) (marked m) ≡ q
    marks-below q h =
        count_same (e q) (marked m) (marked q) (λ j l. marked-low m q (omega arith) (omega arith) h j l)
        ∙ count-marked q (e q) (omega arith) (λ p l. later p q l h)

    pub marks-all : (n : ℕ) → ((q : ℕ) → q < m → e q < n) → count n (marked m) ≡ m
    marks-all n below = count-marked m n (omega arith) below

-- ---- a mark in a list of bytes

module _ (marks : List ℕ) (a : ℕ) where
  pub write-mark : a < length marks → byte (write marks a (1 ∷ [])) a ≡ 1
  write-mark h = rw add-zero at (write-at marks a (1 ∷ []) 0 (omega arith) (omega arith))

  pub write-other : (b : ℕ) → (b ≡ a → ⊥) → byte (write marks a (1 ∷ [])) b ≡ byte marks b
  write-other b other =
      elim (dec_lt b a) [
        | yes h ↦ write-before marks a (1 ∷ []) b h
        | no h ↦ write-after marks a (1 ∷ []) b (omega arith)
      ]
