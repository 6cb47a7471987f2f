-- What the layout's data say of every slot and every entry. Each is one test of the whole list, by computation, and the rule
-- that the test gives at each number.
--     slot-fits      start, flags and fields, then the string words, make up the structure
--     nic-slot, target-slot     the kinds of the extras' slots
--     entry-fits     an entry is one of its owner's strings, and its words stand at that string's place
--     slot-entry     and each string of a slot's kind is an entry
--     built-fits     the build's order names slots, each once, and every slot
-- Assumes nothing.
use mathlib.Core.Path.{◌≡◌, refl, ap, ◌∙◌}
use mathlib.Core.Bool.{Bool, true, false, not, ◌&&◌}
use Prim.Native.Nat.{ℕ, zero, suc, ◌+◌, ◌*◌, ◌-◌, ◌≤◌, ◌<◌}
use native.Mathlib.Omega.{arith}
use borrow.Author.Tests.{leb-true, leb-false, ltb-true, eqb-true, eqb-false, not-true}
use lib.ListN.{length}
use lib.Dec.{leb, ltb, eqb}
use Rattle.octets.specs.Counting.{any}
use Rattle.octets.proofs.TestLaws.{and_both, and-other}
use Rattle.octets.proofs.CountingLaws.{any_none, each_holds}
use Rattle.ibft_layout.specs.Layout.{nic, target, slot_count, entry_count, extra_most, extra_nics, extra_targets, kind_of}
use Rattle.ibft_layout.specs.Layout.{owner_of, string_of, first_entry, built_slot, chap_at}
use Rattle.ibft_readings.specs.Computing.{computing}

-- ---- slots

slot_fits : ℕ → Bool
slot_fits k =
    leb 6 (kind_of k).strings_at
    && (eqb ((kind_of k).strings_at + 4 * length (kind_of k).string_fields) (kind_of k).length
    && (leb (kind_of k).length 102 && not ((kind_of k).chap && leb (kind_of k).strings_at chap_at)))

slots-fit : any slot_count (λ (k : ℕ). not (slot_fits k)) ≡ false
unfolding computing slot_fits
slots-fit = refl

pub record SlotFits (k : ℕ) : Type 0 where
  pub flags : 6 ≤ (kind_of k).strings_at
  pub words : (kind_of k).strings_at + 4 * length (kind_of k).string_fields ≡ (kind_of k).length
  pub short : (kind_of k).length ≤ 102
  pub chap : (kind_of k).chap ≡ true → chap_at < (kind_of k).strings_at

pub slot-fits : (k : ℕ) → k < slot_count → SlotFits k
unfolding slot_fits
slot-fits k h =
    let a = and_both (leb 6 (kind_of k).strings_at) _ (each_holds slot_count slot_fits slots-fit k h) in
    let b = and_both (eqb ((kind_of k).strings_at + 4 * length (kind_of k).string_fields) (kind_of k).length) _ a.1 in
    let d = and_both (leb (kind_of k).length 102) _ b.1 in
    record {
      flags = leb-true 6 (kind_of k).strings_at a.0;
      words = eqb-true ((kind_of k).strings_at + 4 * length (kind_of k).string_fields) (kind_of k).length b.0;
      short = leb-true (kind_of k).length 102 d.0;
      chap = λ is. leb-false (kind_of k).strings_at chap_at (and-other (kind_of k).chap _ (not-true _ d.1) is);
    }

-- the slots of extras
pub nic-slot : (r : ℕ) → r < extra_most → kind_of (extra_nics + r) ≡ nic
unfolding kind_of
nic-slot zero h = refl
nic-slot (suc zero) h = refl
nic-slot (suc (suc zero)) h = refl
nic-slot (suc (suc (suc zero))) h = refl
nic-slot (suc (suc (suc (suc zero)))) h = refl
nic-slot (suc (suc (suc (suc (suc zero))))) h = refl
nic-slot (suc (suc (suc (suc (suc (suc r)))))) h = absurd (omega arith)

pub target-slot : (r : ℕ) → r < extra_most → kind_of (extra_targets + r) ≡ target
unfolding kind_of
target-slot zero h = refl
target-slot (suc zero) h = refl
target-slot (suc (suc zero)) h = refl
target-slot (suc (suc (suc zero))) h = refl
target-slot (suc (suc (suc (suc zero)))) h = refl
target-slot (suc (suc (suc (suc (suc zero))))) h = refl
target-slot (suc (suc (suc (suc (suc (suc r)))))) h = absurd (omega arith)

-- ---- entries

entry_fits : ℕ → Bool
entry_fits n =
    ltb (owner_of n) slot_count
    && (leb (first_entry (owner_of n)) n
    && (ltb n (first_entry (owner_of n) + length (kind_of (owner_of n)).string_fields)
    && (eqb (string_of n).at ((kind_of (owner_of n)).strings_at + 4 * (n - first_entry (owner_of n))) && leb (string_of n).longest 255)))

entries_fit : any entry_count (λ (n : ℕ). not (entry_fits n)) ≡ false
unfolding computing entry_fits
entries_fit = refl

pub record EntryFits (n : ℕ) : Type 0 where
  pub owner : owner_of n < slot_count
  pub from : first_entry (owner_of n) ≤ n
  pub below : n < first_entry (owner_of n) + length (kind_of (owner_of n)).string_fields
  pub place : (string_of n).at ≡ (kind_of (owner_of n)).strings_at + 4 * (n - first_entry (owner_of n))
  pub longest : (string_of n).longest ≤ 255

pub entry-fits : (n : ℕ) → n < entry_count → EntryFits n
unfolding entry_fits
entry-fits n h =
    let a = and_both (ltb (owner_of n) slot_count) _ (each_holds entry_count entry_fits entries_fit n h) in
    let b = and_both (leb (first_entry (owner_of n)) n) _ a.1 in
    let d = and_both (ltb n (first_entry (owner_of n) + length (kind_of (owner_of n)).string_fields)) _ b.1 in
    let e = and_both (eqb (string_of n).at ((kind_of (owner_of n)).strings_at + 4 * (n - first_entry (owner_of n)))) _ d.1 in
    record {
      owner = ltb-true (owner_of n) slot_count a.0;
      from = leb-true (first_entry (owner_of n)) n b.0;
      below = ltb-true n (first_entry (owner_of n) + length (kind_of (owner_of n)).string_fields) d.0;
      place = eqb-true (string_of n).at ((kind_of (owner_of n)).strings_at + 4 * (n - first_entry (owner_of n))) e.0;
      longest = leb-true (string_of n).longest 255 e.1;
    }

-- its two words lie in its owner's structure
pub entry-inside : (n : ℕ) → n < entry_count → (string_of n).at + 4 ≤ (kind_of (owner_of n)).length
entry-inside n h =
    let f = entry-fits n h in
    let s = slot-fits (owner_of n) f.owner in
    omega arith

-- each string of slot k's kind is an entry, and the slot owns it
owns_strings : ℕ → Bool
owns_strings k =
    not (any (length (kind_of k).string_fields) (λ (i : ℕ). not (ltb (first_entry k + i) entry_count && eqb (owner_of (first_entry k + i)) k)))

all-owned : any slot_count (λ (k : ℕ). not (owns_strings k)) ≡ false
unfolding computing owns_strings
all-owned = refl

module _ (k i : ℕ) (h : k < slot_count) (l : i < length (kind_of k).string_fields) where
  owned : (ltb (first_entry k + i) entry_count ≡ true) × (eqb (owner_of (first_entry k + i)) k ≡ true)
  unfolding owns_strings
  owned =
      and_both (ltb (first_entry k + i) entry_count) _
      (each_holds (length (kind_of k).string_fields) (λ (i : ℕ). ltb (first_entry k + i) entry_count && eqb (owner_of (first_entry k + i)) k)
      (not-true _ (each_holds slot_count owns_strings all-owned k h))
      i
      l)

  pub slot-entry : first_entry k + i < entry_count
  slot-entry = ltb-true (first_entry k + i) entry_count owned.0

  pub slot-entry-owner : owner_of (first_entry k + i) ≡ k
  slot-entry-owner = eqb-true (owner_of (first_entry k + i)) k owned.1

  -- its words stand at its place among the slot's strings
  pub slot-entry-place : (string_of (first_entry k + i)).at ≡ (kind_of k).strings_at + 4 * i
  slot-entry-place =
      (entry-fits (first_entry k + i) slot-entry).place
      ∙ ap (λ (o : ℕ). (kind_of o).strings_at + 4 * (first_entry k + i - first_entry o)) slot-entry-owner
      ∙ ap (λ (j : ℕ). (kind_of k).strings_at + 4 * j) (omega arith)

-- ---- the build's order

built_fits : ℕ → Bool
built_fits j =
    ltb (built_slot j) slot_count
    && (not (any j (λ (i : ℕ). eqb (built_slot i) (built_slot j))) && any slot_count (λ (i : ℕ). eqb (built_slot i) j))

builts-fit : any slot_count (λ (j : ℕ). not (built_fits j)) ≡ false
unfolding computing built_fits
builts-fit = refl

-- of turn j its slot, and that slot j has a turn
pub record BuiltFits (j : ℕ) : Type 0 where
  pub slot : built_slot j < slot_count
  pub once : (i : ℕ) → i < j → built_slot i ≡ built_slot j → ⊥
  pub built : any slot_count (λ (i : ℕ). eqb (built_slot i) j) ≡ true

pub built-fits : (j : ℕ) → j < slot_count → BuiltFits j
unfolding built_fits
built-fits j h =
    let a = and_both (ltb (built_slot j) slot_count) _ (each_holds slot_count built_fits builts-fit j h) in
    let b = and_both (not (any j (λ (i : ℕ). eqb (built_slot i) (built_slot j)))) _ a.1 in
    record {
      slot = ltb-true (built_slot j) slot_count a.0;
      once = λ i l. eqb-false (built_slot i) (built_slot j) (any_none j (λ (i : ℕ). eqb (built_slot i) (built_slot j)) (not-true _ b.0) i l);
      built = b.1;
    }
