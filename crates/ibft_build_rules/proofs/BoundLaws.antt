-- The largest Length. Structures end no later than where all of them are present, and entries take no more than where each is
-- stored at its longest; both are then worked out from the layout.
--     end_to-most        structures end no later than where all are present
--     heap_size-most     entries take at most their longest and a zero each
--     heap-start-bound, heap-size-bound, length-bound     the numbers: 1,454, 12,256, 13,710
-- Assumes nothing.
use Rattle.std.specs.Prelude.{None, Some}
use mathlib.Core.Path.{◌≡◌, refl}
use mathlib.Core.Bool.{Bool, true, false, cond}
use mathlib.Core.List.{List}
use Prim.Native.Nat.{ℕ, zero, suc, ◌+◌, ◌≤◌, ◌<◌}
use native.Mathlib.Omega.{arith}
use lib.ListN.{length}
use Rattle.octets.specs.Counting.{sum_to}
use Rattle.string_heap.specs.Stored.{Entry, stored, of_stored, size, heap_size}
use Rattle.string_heap.specs.Starts.{align8, end_to}
use Rattle.string_heap.proofs.Intervals.{sum_to-le}
use Rattle.ibft_layout.specs.Layout.{kind_of, slot_count, entry_count, named_count, most_words, control_end, built_slot, string_of, may_share}
use Rattle.ibft_table.specs.Record.{Content}
use Rattle.octets.proofs.CountLaws.{count-le}
use Rattle.ibft_table_laws.proofs.LeastLaws.{end_to-base}
use Rattle.ibft_build_rules.specs.Plan.{is_present, extras_built, end_built, heap_start, length_built, largest_length}
use Rattle.ibft_build_rules.specs.Computing.{computing}
use Rattle.ibft_build_rules.proofs.GoodContent.{Good}

-- ---- structures

-- every structure is present
abbrev all : ℕ → Bool
all k = true

pub end_to-most : (on : ℕ → Bool) (size : ℕ → ℕ) (base k : ℕ) → end_to on size base k ≤ end_to all size base k
unfolding end_to
end_to-most on size base zero = omega arith
end_to-most on size base (suc k) = go (on k) (end_to-most on size base k)
  where
    go : (b : Bool) → end_to on size base k ≤ end_to all size base k
        → cond b (align8 (end_to on size base k) + size k) (end_to on size base k) ≤ align8 (end_to all size base k) + size k
    go true h = omega arith
    go false h = omega arith

all_end : end_to all (λ (i : ℕ). (kind_of (built_slot i)).length) (control_end most_words) slot_count ≡ 1454
unfolding computing
all_end = refl

pub extras-most : (c : Content) → extras_built c ≤ most_words
unfolding extras_built
extras-most c = count-le most_words (λ (i : ℕ). is_present (c.structure (named_count + i)))

pub heap-start-bound : (c : Content) → heap_start c ≤ 1454
unfolding heap_start end_built
heap-start-bound c =
    let size : ℕ → ℕ = λ i. (kind_of (built_slot i)).length in
    let base : control_end (extras_built c) ≤ control_end most_words = omega (arith, extras-most c) in
    omega (
      arith,
      all_end,
      end_to-most (λ (i : ℕ). is_present (c.structure (built_slot i))) size (control_end (extras_built c)) slot_count,
      end_to-base all size (control_end (extras_built c)) (control_end most_words) slot_count base,
    )

-- ---- entries

pub heap_size-most : (n : ℕ) (shares : ℕ → Bool) (e : ℕ → Entry) (longest : ℕ → ℕ)
    → ((i : ℕ) (a : List ℕ) → i < n → e i ≡ Some a → length a ≤ longest i) → heap_size n shares e ≤ sum_to n (λ (i : ℕ). longest i + 1)
unfolding heap_size of_stored
heap_size-most n shares e longest short =
    sum_to-le n (λ (i : ℕ). size n shares e i) (λ (i : ℕ). longest i + 1) (λ i h. go i h (e i) refl (stored n shares e i))
  where
    go : (i : ℕ) → i < n → (o : Entry) → e i ≡ o → (b : Bool) → of_stored o b (λ (a : List ℕ). length a + 1) ≤ longest i + 1
    go i h None is b = omega arith
    go i h (Some a) is true = omega (arith, short i a h is)
    go i h (Some a) is false = omega arith

all-longest : sum_to entry_count (λ (n : ℕ). (string_of n).longest + 1) ≡ 12256
unfolding computing
all-longest = refl

module _ (c : Content) (good : Good c) where
  pub heap-size-bound : heap_size entry_count may_share c.entry ≤ 12256
  heap-size-bound =
      omega (arith, all-longest, heap_size-most entry_count may_share c.entry (λ (n : ℕ). (string_of n).longest) (λ n a h is. (good.entry n a h is).not-long))

  pub length-bound : length_built c ≤ largest_length
  unfolding length_built
  length-bound = omega (arith, heap-start-bound c, heap-size-bound)
