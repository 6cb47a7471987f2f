-- Laws for the functions that put an address as text: what each definition is at the tests that the code makes.
-- Assumes nothing.
use mathlib.Core.Path.{◌≡◌, refl, sym, ap, ◌∙◌}
use mathlib.Core.Bool.{Bool, true, false}
use mathlib.Core.List.{List, [], ◌∷◌, ◌++◌, append_assoc}
use Prim.Native.Nat.{ℕ, zero, suc, ◌+◌, ◌-◌, ◌≤◌, ◌<◌}
use native.Mathlib.Nat.{add-zero}
use native.Mathlib.Numerals.{add-one}
use native.Mathlib.Decide.{dec_le}
use native.Mathlib.Omega.{arith}
use borrow.Author.Tests.{lt-ltb, le-ltb, le-leb, lt-leb}
use Rattle.octets.specs.Counting.{tabulate}
use Rattle.octets.specs.Octets.{differs}
use Rattle.octets.proofs.CountingLaws.{first-is}
use Rattle.octets.proofs.TestLaws.{unlike-differs}
use Rattle.text.specs.Put.{Puts}
use Rattle.text.specs.Split.{join}
use Rattle.text.proofs.PutLaws.{puts-append, puts-same}
use Rattle.notation.specs.Address.{colon, group_at, zero_run, longer, longest, groups_text, four_text, six_text, is_mapped, address_text}
use Rattle.notation.specs.AddressSteps.{number_text, separator, numbers_text}
use Rattle.notation.specs.declared.address.Run.{Run}

-- ---- runs of zero groups

module _ (a : List ℕ) (k n j : ℕ) (before : (i : ℕ) → i < j → differs (group_at a (k + i)) 0 ≡ false) where
  pub run_ends : j < n → (group_at a (k + j) ≡ 0 → ⊥) → j ≡ zero_run a k n
  unfolding zero_run
  run_ends h other =
      sym (first-is n (λ (i : ℕ). differs (group_at a (k + i)) 0) j (omega arith) before (λ l. unlike-differs (group_at a (k + j)) 0 other))

  pub run-whole : j ≡ n → j ≡ zero_run a k n
  unfolding zero_run
  run-whole h = sym (first-is n (λ (i : ℕ). differs (group_at a (k + i)) 0) j (omega arith) before (λ l. absurd (omega arith)))

-- the longest run, by the first
module _ (a : List ℕ) (k n : ℕ) where
  pub longest-none : n ≡ 0 → record { start = k; size = 0 } ≡ longest a k n
  unfolding longest
  longest-none e = rw e

  -- the run from k on is z long, and `later` is the longest behind k
  module _ (z : ℕ) (later : Run) (some_left : 0 < n) (here : z ≡ zero_run a k n) (behind : later ≡ longest a (k + 1) (n - 1)) where
    longest-longer : longer (record { start = k; size = z }) later ≡ longest a k n
    unfolding longest
    longest-longer =
        let all : suc (n - 1) ≡ n = omega arith in
        let step : longer (record { start = k; size = z }) later ≡ longest a k (suc (n - 1)) = rw (here ∙ ap (zero_run a k) (sym all), behind, add-one) in
        step ∙ ap (longest a k) all

    pub longest-here : later.size ≤ z → record { start = k; size = z } ≡ longest a k n
    longest-here h = rw (le-leb later.size z h) at longest-longer

    pub longest-later : z < later.size → later ≡ longest a k n
    longest-later h = rw (lt-leb later.size z h) at longest-longer

-- a run behind b that is not longer than b is not in the way, and one that is longer takes b's place
longer-old : (b h l : Run) → h.size ≤ b.size → longer b (longer h l) ≡ longer b l
longer-old b h l shorter =
    elim (dec_le l.size h.size) [
      | yes e ↦ rw (le-leb l.size h.size e, le-leb h.size b.size shorter, le-leb l.size b.size (omega arith))
      | no e ↦ rw (lt-leb l.size h.size (omega arith))
    ]

longer-new : (b h l : Run) → b.size < h.size → longer b (longer h l) ≡ longer h l
longer-new b h l more =
    elim (dec_le l.size h.size) [
      | yes e ↦ rw (le-leb l.size h.size e, lt-leb h.size b.size more)
      | no e ↦ rw (lt-leb l.size h.size (omega arith), lt-leb l.size b.size (omega arith))
    ]

module _ (a : List ℕ) where
  longer-size : (k z : ℕ) (l : Run) → longer (record { start = k; size = 0 }) (longer (record { start = k; size = z }) l) ≡ longer (record { start = k; size = z }) l
  longer-size k zero l = longer-old (record { start = k; size = 0 }) (record { start = k; size = 0 }) l (omega arith)
  longer-size k (suc z) l = longer-new (record { start = k; size = 0 }) (record { start = k; size = suc z }) l (omega arith)

  -- the empty run in front is not in the way
  pub longest-start : (k n : ℕ) → longer (record { start = k; size = 0 }) (longest a k n) ≡ longest a k n
  unfolding longest
  longest-start k zero = refl
  longest-start k (suc n) = longer-size k (zero_run a k (suc n)) (longest a (suc k) n)

  -- no groups are left
  pub longest-end : (b : Run) (k n : ℕ) → n ≡ 0 → longer b (longest a k n) ≡ b
  unfolding longest
  longest-end b k n e = rw (e, le-leb 0 b.size (omega arith))

  -- the run from k + j on is z long, and the longest of all groups is b or one of those from there on
  module _ (b : Run) (k n j z : ℕ) (some_left : j < n) (here : z ≡ zero_run a (k + j) (n - j)) (so : longer b (longest a (k + j) (n - j)) ≡ longest a k n) where
    longest-more : longest a (k + j) (n - j) ≡ longer (record { start = k + j; size = z }) (longest a (k + (j + 1)) (n - (j + 1)))
    unfolding longest
    longest-more =
        let count : n - j ≡ suc (n - (j + 1)) = omega arith in
        let place : k + (j + 1) ≡ suc (k + j) = omega arith in
        rw (here, count, place)

    pub longest-old : z ≤ b.size → longer b (longest a (k + (j + 1)) (n - (j + 1))) ≡ longest a k n
    longest-old h =
        sym (longer-old b (record { start = k + j; size = z }) (longest a (k + (j + 1)) (n - (j + 1))) h) ∙ ap (longer b) (sym longest-more) ∙ so

    pub longest-new : b.size < z → longer (record { start = k + j; size = z }) (longest a (k + (j + 1)) (n - (j + 1))) ≡ longest a k n
    longest-new h =
        sym (longer-new b (record { start = k + j; size = z }) (longest a (k + (j + 1)) (n - (j + 1))) h) ∙ ap (longer b) (sym longest-more) ∙ so

-- ---- numbers with separators between

module _ (a : List ℕ) (four : Bool) where
  -- the first one, before the others
  numbers-more-suc : (k m : ℕ) → number_text a four k ++ (separator four ∷ numbers_text a four (k + 1) (suc m)) ≡ numbers_text a four k (suc (suc m))
  unfolding numbers_text join tabulate
  numbers-more-suc k m = ap (λ (i : ℕ). number_text a four k ++ (separator four ∷ numbers_text a four i (suc m))) (add-one k)

  -- the last one, behind the others
  numbers-last-suc : (k m : ℕ) → numbers_text a four k (suc m) ++ (separator four ∷ number_text a four (k + suc m)) ≡ numbers_text a four k (suc (suc m))
  unfolding numbers_text join tabulate
  numbers-last-suc k zero = ap (λ (i : ℕ). number_text a four k ++ (separator four ∷ number_text a four i)) (add-one k)
  numbers-last-suc k (suc m) =
      let place : k + suc (suc m) ≡ (k + 1) + suc m = omega arith in
      rw (place, ← numbers-more-suc k m, append_assoc (number_text a four k) (separator four ∷ numbers_text a four (k + 1) (suc m)) (separator four ∷ number_text a four ((k + 1) + suc m)))
      (ap (λ (t : List ℕ). number_text a four k ++ (separator four ∷ t)) (numbers-last-suc (k + 1) m) ∙ numbers-more-suc k (suc m))

  module _ (k n : ℕ) where
    pub numbers-none : n ≡ 0 → [] ≡ numbers_text a four k n
    unfolding numbers_text join tabulate
    numbers-none e = rw e

    pub numbers-one : n ≡ 1 → number_text a four k ≡ numbers_text a four k n
    unfolding numbers_text join tabulate
    numbers-one e = rw e

    numbers_more : 1 < n → number_text a four k ++ (separator four ∷ numbers_text a four (k + 1) (n - 1)) ≡ numbers_text a four k n
    numbers_more h =
        let less : n - 1 ≡ suc (n - 2) = omega arith in
        let all : suc (suc (n - 2)) ≡ n = omega arith in
        rw less (numbers-more-suc k (n - 2) ∙ ap (numbers_text a four k) all)

    -- a number, the separator, and the numbers behind it
    pub puts-more : {t u v w : List ℕ} {at m i r s : ℕ} → 1 < n → Puts t u at m (number_text a four k) → s ≡ separator four → Puts u v m i (s ∷ [])
        → Puts v w i r (numbers_text a four (k + 1) (n - 1)) → Puts t w at r (numbers_text a four k n)
    puts-more {s = s} h p e q f =
        puts-same (puts-append p (puts-append (puts-same q (ap (λ (x : ℕ). x ∷ []) e)) f)) (numbers_more h)

    -- the last one, behind the others
    numbers-first : n ≡ 0 → numbers_text a four k n ++ number_text a four (k + n) ≡ numbers_text a four k (n + 1)
    unfolding numbers_text join tabulate
    numbers-first e = rw (e, add-zero k)

    numbers-last : 0 < n → numbers_text a four k n ++ (separator four ∷ number_text a four (k + n)) ≡ numbers_text a four k (n + 1)
    numbers-last h =
        let all : suc (n - 1) ≡ n = omega arith in
        let more : suc n ≡ n + 1 = omega arith in
        rw (all, more) at (numbers-last-suc k (n - 1))

    -- the first number
    pub puts-first : {t u v : List ℕ} {at m r : ℕ} → n ≡ 0 → Puts t u at m (numbers_text a four k n) → Puts u v m r (number_text a four (k + n))
        → Puts t v at r (numbers_text a four k (n + 1))
    puts-first e p q = puts-same (puts-append p q) (numbers-first e)

    -- the numbers before, the separator, and one more
    pub puts-other : {t u v w : List ℕ} {at m i r s : ℕ} → 0 < n → Puts t u at m (numbers_text a four k n) → s ≡ separator four → Puts u v m i (s ∷ [])
        → Puts v w i r (number_text a four (k + n)) → Puts t w at r (numbers_text a four k (n + 1))
    puts-other {s = s} h p e q f =
        puts-same (puts-append p (puts-append (puts-same q (ap (λ (x : ℕ). x ∷ []) e)) f)) (numbers-last h)

-- ---- an address

module _ (a : List ℕ) where
  pub six-plain : (r : Run) → r.size ≤ 1 → numbers_text a false 0 8 ≡ six_text a r
  unfolding six_text groups_text numbers_text
  six-plain r h = rw (le-ltb 1 r.size h)

  six-gap : (r : Run) → 1 < r.size
      → numbers_text a false 0 r.start ++ (colon ∷ colon ∷ numbers_text a false (r.start + r.size) (8 - (r.start + r.size))) ≡ six_text a r
  unfolding six_text groups_text numbers_text
  six-gap r h = rw (lt-ltb 1 r.size h)

  -- the groups before the run, `::`, and those behind it
  pub puts-gap : {t u v w : List ℕ} {at m i e : ℕ} (r : Run) → 1 < r.size → Puts t u at m (numbers_text a false 0 r.start)
      → Puts u v m i (colon ∷ colon ∷ []) → Puts v w i e (numbers_text a false (r.start + r.size) (8 - (r.start + r.size))) → Puts t w at e (six_text a r)
  puts-gap r h p q f = puts-same (puts-append p (puts-append q f)) (six-gap r h)

  pub text-mapped : is_mapped a ≡ true → numbers_text a true 12 4 ≡ address_text a
  unfolding address_text four_text numbers_text
  text-mapped e = rw e

  pub text-six : is_mapped a ≡ false → six_text a (longest a 0 8) ≡ address_text a
  unfolding address_text
  text-six e = rw e
