-- What an accepted table holds, where the record of facts does not say it word for word.
--     present-past, present-below, holds-past, holds-below     past the last slot and entry nothing is present
--     length-least, length-le          Length
--     slot_kept, slots-disjoint        a present structure's facts; any two apart, whichever slot is earlier
--     heap-start-le                    the heap starts at or below Length
--     entry-owner-on, entry-words-le   a present entry's structure is present; an entry's words lie in its structure
--     entry_kept, entry_length         a present entry's facts, and how many bytes it has
--     entry-stands                     it stands in the heap with its zero
-- Assumes nothing.
use mathlib.Core.Path.{◌≡◌, sym, ap, ◌∙◌}
use mathlib.Core.Bool.{true, false}
use mathlib.Core.List.{List}
use Prim.Native.Nat.{ℕ, ◌+◌, ◌≤◌, ◌<◌}
use native.Mathlib.Decide.{dec_lt}
use native.Mathlib.Omega.{arith}
use lib.ListN.{length, get_or-eq_default}
use Rattle.octets.specs.Octets.{byte, part}
use Rattle.octets.proofs.CountingLaws.{clash}
use Rattle.octets.proofs.ReadLaws.{part_length, part_at}
use Rattle.string_heap.proofs.TailsLaws.{Stands}
use Rattle.ibft_layout.specs.Layout.{slot_count, entry_count, kind_of, owner_of, least_length}
use Rattle.table_header.specs.Header.{length_of}
use Rattle.ibft_table.specs.Table.{extra_words, starts_to, starts_of, start_in, present_in, start_of, present, end_in, end_of, heap_of, field_in}
use Rattle.ibft_table.specs.Table.{field_of, size_of, offset_of, holds_in, holds_entry}
use Rattle.ibft_table.specs.Check.{check_of}
use Rattle.table_header.specs.Verdict.{Accepted}
use Rattle.ibft_table_laws.specs.Facts.{SlotFacts, EntryFacts, Disjoint, Facts}
use Rattle.octets.proofs.TestLaws.{and_both, same_differs}
use Rattle.ibft_table.proofs.SeatLaws.{starts-length}
use Rattle.ibft_table_laws.proofs.HeapLaws.{heap-below}
use Rattle.ibft_table_laws.proofs.SlotLaws.{slot_kept as kept, slots-disjoint as disjoint, heap-end as end}
use Rattle.ibft_layout.proofs.LayoutLaws.{owner-past}
use Rattle.ibft_table_laws.proofs.LayoutLaws.{entry-fits, entry-inside}
use Rattle.ibft_table_laws.proofs.AcceptedLaws.{accepted-facts}

-- an entry that is present has a structure that is
pub entry-owner-on : (t : List ℕ) (n : ℕ) → holds_entry t n ≡ true → present t (owner_of n) ≡ true
unfolding holds_in
entry-owner-on t n on = (and_both (present t (owner_of n)) _ on).0

-- its two words lie in its structure
pub entry-words-le : (t : List ℕ) (n : ℕ) → n < entry_count → field_of t n + 4 ≤ end_of t (owner_of n)
unfolding field_in end_in
entry-words-le t n h = omega (arith, entry-inside n h)

-- ---- past the last slot and entry nothing is present

module _ (t : List ℕ) where
  pub present-past : (k : ℕ) → slot_count ≤ k → present t k ≡ false
  unfolding present_in start_in starts_of
  present-past k h =
      let long : length (starts_to t (extra_words t)) ≤ k = omega (arith, starts-length t (extra_words t)) in
      same_differs (start_of t k) 0 (get_or-eq_default (starts_to t (extra_words t)) 0 long)

  pub present-below : (k : ℕ) → present t k ≡ true → k < slot_count
  present-below k on =
      elim (dec_lt k slot_count) [
        | yes l ↦ l
        | no l ↦ clash on (present-past k (omega arith))
      ]

  pub holds-past : (n : ℕ) → entry_count ≤ n → holds_entry t n ≡ false
  unfolding holds_in
  holds-past n h = rw (ap (present t) (owner-past n h) ∙ present-past slot_count (omega arith))

  pub holds-below : (n : ℕ) → holds_entry t n ≡ true → n < entry_count
  holds-below n on =
      elim (dec_lt n entry_count) [
        | yes l ↦ l
        | no l ↦ clash on (holds-past n (omega arith))
      ]

-- ---- an accepted table

module _ (t : List ℕ) (ok : check_of t ≡ Accepted) where
  pub facts : Facts t
  facts = accepted-facts t ok

  pub length-least : least_length ≤ length_of t
  length-least = facts.header.long

  pub length-le : length_of t ≤ length t
  length-le = facts.header.whole

  -- ---- structures

  module _ (k : ℕ) (h : k < slot_count) (on : present t k ≡ true) where
    pub slot_kept : SlotFacts t k
    slot_kept = kept t facts k h on

    pub slot-end-le : start_of t k + (kind_of k).length ≤ length_of t
    unfolding end_in
    slot-end-le = slot_kept.inside

  pub slots-disjoint : (i k : ℕ) → i < slot_count → k < slot_count → (i ≡ k → ⊥) → present t i ≡ true → present t k ≡ true → Disjoint t i k
  slots-disjoint i k hi hk ne oni onk = disjoint t facts i k hi hk ne oni onk

  pub heap-end : (k : ℕ) → k < slot_count → present t k ≡ true → end_of t k ≤ heap_of t
  heap-end k h on = end t facts k h on

  -- ---- the heap

  pub heap-start-le : heap_of t ≤ length_of t
  heap-start-le = heap-below t (length_of t) facts.control.inside (λ w h on. (facts.word w h on).inside)

  -- ---- entries

  pub owner-inside : (n : ℕ) → n < entry_count → present t (owner_of n) ≡ true → end_of t (owner_of n) ≤ length_of t
  owner-inside n h on = (slot_kept (owner_of n) (entry-fits n h).owner on).inside

  module _ (n : ℕ) (h : n < entry_count) (on : holds_entry t n ≡ true) where
    pub entry_kept : EntryFacts t n
    entry_kept = facts.entry n h on

    pub entry_length : length (part t (offset_of t n) (size_of t n)) ≡ size_of t n
    entry_length = part_length t (offset_of t n) (size_of t n) (omega (arith, entry_kept.high, length-le))

    pub entry-stands : Stands t (heap_of t) (length_of t) (offset_of t n) (part t (offset_of t n) (size_of t n))
    entry-stands = record {
      low = entry_kept.low;
      high = omega (arith, entry_kept.high, entry_length);
      bytes = λ k l. sym (part_at t (offset_of t n) (size_of t n) k (omega (arith, entry_length)));
      ends = ap (λ (l : ℕ). byte t (offset_of t n + l)) entry_length ∙ entry_kept.ends;
    }
