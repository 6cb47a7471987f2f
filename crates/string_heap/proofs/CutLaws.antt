-- Entries from m on are missing, so the heap of n entries is that of the first m: loops over entries may stop at m.
--     stored_cut, size-cut, heap_size-cut     what is stored, what it takes
--     heap_to-past, heap_to-cut                the heap's bytes
--     holder-cut, place-cut                    where a present entry stands
-- Assumes nothing.
use Rattle.std.specs.Prelude.{None, Some}
use mathlib.Core.Path.{◌≡◌, refl, ap, ap₂, ◌∙◌}
use mathlib.Core.Bool.{Bool, false, not, ◌&&◌, ◌||◌}
use mathlib.Core.List.{List, ◌++◌, append-nil}
use Prim.Native.Nat.{ℕ, zero, suc, ◌+◌, ◌-◌, ◌≤◌, ◌<◌}
use native.Mathlib.Decide.{dec_lt}
use native.Mathlib.Omega.{arith}
use lib.ListN.{length}
use lib.Dec.{eqb}
use Rattle.octets.specs.Counting.{sum_to}
use Rattle.octets.proofs.CountingLaws.{first-same}
use Rattle.octets.proofs.CutLaws.{first-cut, any-cut, sum_to-cut}
use Rattle.string_heap.specs.Stored.{Entry, covered_by, stored_as, stored, of_stored, size, heap_size}
use Rattle.string_heap.specs.Places.{len, ends_with, bytes_of, heap_to, holds, holder, place}
use Rattle.string_heap.proofs.HolderLaws.{held}

sum_to-same : (n : ℕ) (f g : ℕ → ℕ) → ((i : ℕ) → f i ≡ g i) → sum_to n f ≡ sum_to n g
unfolding sum_to
sum_to-same zero f g h = refl
sum_to-same (suc n) f g h = ap₂ (λ (a b : ℕ). a + b) (sum_to-same n f g h) (h n)

module _ (m n : ℕ) (shares : ℕ → Bool) (e : ℕ → Entry) (le : m ≤ n) (past : (i : ℕ) → m ≤ i → e i ≡ None) where
  -- ---- what is stored

  pub stored_cut : (i : ℕ) → stored n shares e i ≡ stored m shares e i
  unfolding stored_as covered_by
  stored_cut i = go (e i)
    where
      go : (o : Entry) → stored_as n shares e i o ≡ stored_as m shares e i o
      go None = refl
      go (Some a) =
          ap (λ (b : Bool). not (shares i && b))
          (any-cut m n (λ (j : ℕ). covered_by shares i a j (e j)) le (λ j l h. ap (covered_by shares i a j) (past j l)))

  pub size-cut : (i : ℕ) → size n shares e i ≡ size m shares e i
  size-cut i = ap (λ (b : Bool). of_stored (e i) b (λ (a : List ℕ). length a + 1)) (stored_cut i)

  size-past : (i : ℕ) → m ≤ i → size n shares e i ≡ 0
  unfolding of_stored
  size-past i h = ap (λ (o : Entry). of_stored o (stored n shares e i) (λ (a : List ℕ). length a + 1)) (past i h)

  pub heap_size-cut : heap_size n shares e ≡ heap_size m shares e
  unfolding heap_size
  heap_size-cut =
      sum_to-cut m n (λ (i : ℕ). size n shares e i) le (λ i l h. size-past i l)
      ∙ sum_to-same m (λ (i : ℕ). size n shares e i) (λ (i : ℕ). size m shares e i) size-cut

  -- ---- the heap's bytes

  heap_to-same : (k : ℕ) → heap_to n shares e k ≡ heap_to m shares e k
  unfolding heap_to
  heap_to-same zero = refl
  heap_to-same (suc k) = ap₂ (λ (l r : List ℕ). l ++ r) (heap_to-same k) (ap (bytes_of (e k)) (stored_cut k))

  pub heap_to-past : (k : ℕ) → m ≤ k → heap_to n shares e k ≡ heap_to n shares e m
  unfolding heap_to bytes_of
  heap_to-past zero h = let z : zero ≡ m = omega arith in ap (heap_to n shares e) z
  heap_to-past (suc k) h =
      elim (dec_lt k m) [
        | yes l ↦ let z : suc k ≡ m = omega arith in ap (heap_to n shares e) z
        | no l ↦
            ap (λ (o : Entry). heap_to n shares e k ++ bytes_of o (stored n shares e k)) (past k (omega arith))
            ∙ append-nil (heap_to n shares e k)
            ∙ heap_to-past k (omega arith)
      ]

  pub heap_to-cut : heap_to n shares e n ≡ heap_to m shares e m
  heap_to-cut = heap_to-past n le ∙ heap_to-same m

  -- ---- where a present entry stands

  module _ (i : ℕ) (a : List ℕ) (h : i < n) (is : e i ≡ Some a) where
    holds-past : (j : ℕ) → m ≤ j → holds n shares e i a j ≡ false
    unfolding holds ends_with stored_as
    holds-past j l = rw (past j l)

    holds-cut : (j : ℕ) → holds n shares e i a j ≡ holds m shares e i a j
    unfolding holds
    holds-cut j = ap (λ (b : Bool). b && ends_with a (e j) && (eqb i j || (shares i && shares j))) (stored_cut j)

    pub holder-cut : holder n shares e i a ≡ holder m shares e i a
    unfolding holder
    holder-cut =
        first-cut m n (holds n shares e i a) le (λ j l x. holds-past j l) (held n shares e i a h is).below
        ∙ first-same m (holds n shares e i a) (holds m shares e i a) (λ j l. holds-cut j)

    pub place-cut : place n shares e i a ≡ place m shares e i a
    unfolding place
    place-cut =
        ap (λ (k : ℕ). sum_to k (λ (j : ℕ). size n shares e j) + (len (e k) - length a)) holder-cut
        ∙ ap (λ (s : ℕ). s + (len (e (holder m shares e i a)) - length a))
        (sum_to-same (holder m shares e i a) (λ (j : ℕ). size n shares e j) (λ (j : ℕ). size m shares e j) size-cut)
