-- Laws of the layout's data, for code that knows them number by number or by arithmetic.
--     last_arm                          the last arm of a `match`, that of number 0 and of what is past the last number
--     rows                              two tables that have the same rows from one on
--     kind-past, index-past             past the last slot stands slot 0
--     kind-nic, kind-target, kind-other the kind of a slot, by its ID
--     field_row, field_past             the fields of a kind, by number; past the last stand its flags
--     nic-past, target_past             past the last NIC and target stands no slot
--     owner-extra, string-extra         the entries of extras, by arithmetic
--     owner-past, string-past           past the last entry stands one of no slot
--     owner-named, owner-later          the entries of the named slots, and those behind them
--     entries-nic, entries-target       the entries from a slot's first on
--     first-nic, first-target           a slot's first entry, by arithmetic; first_past: past the last slot one entry for each
--     first-most                        the first entries of slots are within the layout
-- Assumes nothing.
use mathlib.Core.Path.{◌≡◌, refl, sym, ap, ◌∙◌}
use mathlib.Core.List.{[], ◌∷◌}
use mathlib.Core.Bool.{Bool, true, false, cond}
use Prim.Native.Nat.{ℕ, zero, suc, ◌+◌, ◌*◌, ◌-◌, ◌/◌, ◌%◌, ◌≤◌, ◌<◌}
use native.Mathlib.Decide.{dec_le, dec_lt}
use native.Mathlib.Omega.{arith}
use borrow.Author.Tests.{le-ltb, ltb-true, lt-leb, le-leb, leb-true, ne_eqb}
use lib.ListN.{length, get_or, get_or-eq_default}
use lib.Dec.{eqb, ltb, leb}
use Rattle.octets.specs.Counting.{sum_to, tabulate}
use Rattle.octets.proofs.CountingLaws.{tabulate-equal, get_d-tabulate-from}
use Rattle.ibft_layout.specs.Layout.{StringField, Kind, EntryLayout, string, nic, target, kinds, initiator, kind_of, fields_of}
use Rattle.ibft_layout.specs.Layout.{kind_field, first_entry, indices, index_of, slot_count, named_count, extra_nics, extra_targets}
use Rattle.ibft_layout.specs.Layout.{nic_slots, nic_slot, target_slots, target_slot, entry_count, named_entries, entries_of, entries_from}
use Rattle.ibft_layout.specs.Layout.{entry_layout, owner_of, string_of, target_entries, target_strings}
use Rattle.ibft_layout.specs.Shapes.{field_shape}
use Rattle.ibft_layout.specs.declared.shape.FieldShape.{FieldShape}

-- n is none of 1 to k, as the last arm has it
abbrev NoneOf : ℕ → ℕ → Type 0
NoneOf n zero = Unit
NoneOf n (suc k) = NoneOf n k × (n ≡ suc k → ⊥)

none-of-zero : (n k : ℕ) → NoneOf n k → n ≤ k → n ≡ 0
none-of-zero n zero none h = omega arith
none-of-zero n (suc k) none h =
    elim (dec_le n k) [
      | yes l ↦ none-of-zero n k none.0 l
      | no l ↦ absurd (none.1 (omega arith))
    ]

pub last_arm {ℓ} : {A : Type ℓ} (f : ℕ → A) (k n : ℕ) → NoneOf n k → (k < n → f n ≡ f 0) → f 0 ≡ f n
last_arm f k n none past =
    elim (dec_le n k) [
      | yes l ↦ sym (ap f (none-of-zero n k none l))
      | no l ↦ sym (past (omega arith))
    ]

-- f and g have the same rows from row low on
pub rows {ℓ} : {A : Type ℓ} (f g : ℕ → A) (low count : ℕ) → tabulate f low count ≡ tabulate g low count → (n : ℕ) → low ≤ n → n < low + count → f n ≡ g n
rows f g low count e n from to =
    let here : low + (n - low) ≡ n = omega arith in
    sym (get_d-tabulate-from f low count (n - low) (f n) (omega arith) ∙ ap f here)
    ∙ ap (λ l. get_or l (n - low) (f n)) e ∙ get_d-tabulate-from g low count (n - low) (f n) (omega arith) ∙ ap g here

pub kind-past : (k : ℕ) → slot_count ≤ k → kind_of k ≡ kind_of 0
unfolding kind_of
kind-past k h = get_or-eq_default kinds initiator h

pub index-past : (k : ℕ) → named_count ≤ k → index_of k ≡ index_of 0
unfolding index_of
index-past k h = get_or-eq_default indices 0 h

-- a slot has one of three kinds, and these have IDs of their own
kind_by : ℕ → Kind
kind_by id = cond (eqb id 3) nic (cond (eqb id 4) target initiator)

kinds-are : tabulate kind_of 0 slot_count ≡ tabulate (λ (k : ℕ). kind_by (kind_of k).id) 0 slot_count
unfolding tabulate kind_of kind_by
kinds-are = refl

kind-by : (k : ℕ) → kind_of k ≡ kind_by (kind_of k).id
unfolding kind_of kind_by
kind-by k =
    elim (dec_lt k slot_count) [
      | yes l ↦ tabulate-equal kind_of (λ (k : ℕ). kind_by (kind_of k).id) slot_count kinds-are k l
      | no l ↦ rw (kind-past k (omega arith))
    ]

pub kind-nic : (k : ℕ) → (kind_of k).id ≡ 3 → nic ≡ kind_of k
unfolding kind_by
kind-nic k e = sym (kind-by k ∙ ap kind_by e)

pub kind-target : (k : ℕ) → (kind_of k).id ≡ 4 → target ≡ kind_of k
unfolding kind_by
kind-target k e = sym (kind-by k ∙ ap kind_by e)

pub kind-other : (k : ℕ) → ((kind_of k).id ≡ 3 → ⊥) → ((kind_of k).id ≡ 4 → ⊥) → initiator ≡ kind_of k
unfolding kind_by
kind-other k a b = sym (kind-by k ∙ rw (ne_eqb (kind_of k).id 3 a, ne_eqb (kind_of k).id 4 b))

-- field m of a kind, where n is m
pub field_row : (kind : Kind) (m n : ℕ) (r : FieldShape) → r ≡ field_shape (kind_field kind m) → n ≡ m → r ≡ field_shape (kind_field kind n)
field_row kind m n r e same = e ∙ ap (λ (i : ℕ). field_shape (kind_field kind i)) (sym same)

pub field_past : (kind : Kind) (n : ℕ) → length (fields_of kind) ≤ n → field_shape (kind_field kind n) ≡ field_shape (kind_field kind 0)
unfolding kind_field
field_past kind n h = ap field_shape (get_or-eq_default (fields_of kind) _ h)

pub nic-past : (n : ℕ) → 8 ≤ n → nic_slot n ≡ slot_count
unfolding nic_slot
nic-past n h = get_or-eq_default nic_slots slot_count h

pub target_past : (n : ℕ) → 8 ≤ n → target_slot n ≡ slot_count
unfolding target_slot
target_past n h = get_or-eq_default target_slots slot_count h

-- ---- entries

abbrev pub owner_by : ℕ → ℕ
owner_by n = cond (ltb n named_entries) (owner_of n)
    (cond (ltb n target_entries) (n - named_entries + extra_nics) ((n - target_entries) / target_strings + extra_targets))

abbrev pub target_string : ℕ → StringField
target_string i = get_or target.string_fields i (string 34 223 false)

abbrev pub string_by : ℕ → StringField
string_by n = cond (ltb n named_entries) (string_of n) (cond (ltb n target_entries) (string 98 255 true) (target_string ((n - target_entries) % target_strings)))

owners-are : tabulate owner_of 0 entry_count ≡ tabulate owner_by 0 entry_count
unfolding tabulate owner_of entry_layout entries_from entries_of
owners-are = refl

strings-are : tabulate string_of 0 entry_count ≡ tabulate string_by 0 entry_count
unfolding tabulate string_of entry_layout entries_from entries_of
strings-are = refl

pub owner-extra : (n : ℕ) → n < entry_count → owner_of n ≡ owner_by n
owner-extra n h = tabulate-equal owner_of owner_by entry_count owners-are n h

pub string-extra : (n : ℕ) → n < entry_count → string_of n ≡ string_by n
string-extra n h = tabulate-equal string_of string_by entry_count strings-are n h

past : (n : ℕ) → entry_count ≤ n → entry_layout n ≡ record { slot = slot_count; string = string 70 223 false }
unfolding entry_layout entries_from entries_of
past n h = get_or-eq_default (entries_from 0 kinds) _ h

pub owner-past : (n : ℕ) → entry_count ≤ n → owner_of n ≡ slot_count
unfolding owner_of
owner-past n h = ap (λ (e : EntryLayout). e.slot) (past n h)

pub string-past : (n : ℕ) → entry_count ≤ n → string_of n ≡ string 70 223 false
unfolding string_of
string-past n h = ap (λ (e : EntryLayout). e.string) (past n h)

-- an entry of the named slots, and one of an extra or of no slot
named-below : tabulate (λ (n : ℕ). ltb (owner_of n) named_count) 0 named_entries ≡ tabulate (λ (n : ℕ). true) 0 named_entries
unfolding tabulate owner_of entry_layout entries_from entries_of
named-below = refl

pub owner-named : (n : ℕ) → n < named_entries → owner_of n < named_count
owner-named n h = ltb-true (owner_of n) named_count (tabulate-equal (λ (n : ℕ). ltb (owner_of n) named_count) (λ (n : ℕ). true) named_entries named-below n h)

pub owner-later : (n : ℕ) → named_entries ≤ n → named_count ≤ owner_of n
owner-later n low =
    elim (dec_le entry_count n) [
      | yes high ↦ omega (arith, owner-past n high)
      | no high ↦ rw (owner-extra n (omega arith), le-ltb n named_entries low) (go (ltb n target_entries))
    ]
  where
    go : (b : Bool) → named_count ≤ cond b (n - named_entries + extra_nics) ((n - target_entries) / target_strings + extra_targets)
    go true = omega arith
    go false = omega arith

-- from the first entry of slot k on no entry is of a slot below k: of an extra NIC, of an extra target
module _ (k n : ℕ) where
  pub entries-nic : named_count ≤ k → k ≤ extra_targets → named_entries + (k - extra_nics) ≤ n → k ≤ owner_of n
  entries-nic low high h =
      elim (dec_le entry_count n) [
        | yes past ↦ omega (arith, owner-past n past)
        | no past ↦ rw (owner-extra n (omega arith), le-ltb n named_entries (omega arith)) (go (ltb n target_entries) refl)
      ]
    where
      go : (b : Bool) → ltb n target_entries ≡ b → k ≤ cond b (n - named_entries + extra_nics) ((n - target_entries) / target_strings + extra_targets)
      go true e = omega arith
      go false e = omega arith

  pub entries-target : extra_targets ≤ k → k ≤ slot_count → target_entries + target_strings * (k - extra_targets) ≤ n → k ≤ owner_of n
  entries-target low high h =
      elim (dec_le entry_count n) [
        | yes past ↦ omega (arith, owner-past n past)
        | no past ↦ rw (owner-extra n (omega arith), le-ltb n named_entries (omega arith)) (go (ltb n target_entries) refl)
      ]
    where
      go : (b : Bool) → ltb n target_entries ≡ b → k ≤ cond b (n - named_entries + extra_nics) ((n - target_entries) / target_strings + extra_targets)
      go true e = absurd (omega (arith, ltb-true n target_entries e))
      go false e = omega arith

-- ---- a slot's first entry

-- by number, and by arithmetic for the extras
abbrev first_by : ℕ → ℕ
first_by k = cond (leb extra_targets k) (target_entries + target_strings * (k - extra_targets))
    (cond (leb extra_nics k) (named_entries + (k - extra_nics)) (get_or (0 ∷ 1 ∷ 2 ∷ 7 ∷ 8 ∷ []) k 0))

firsts-are : tabulate first_entry 0 18 ≡ tabulate first_by 0 18
unfolding tabulate first_entry sum_to kind_of
firsts-are = refl

first-by : (k : ℕ) → k ≤ slot_count → first_entry k ≡ first_by k
first-by k h = tabulate-equal first_entry first_by 18 firsts-are k (omega arith)

pub first-target : (k : ℕ) → extra_targets ≤ k → k ≤ slot_count → target_entries + target_strings * (k - extra_targets) ≡ first_entry k
first-target k low high = sym (first-by k high ∙ rw (le-leb extra_targets k low))

pub first-nic : (k : ℕ) → extra_nics ≤ k → k < extra_targets → named_entries + (k - extra_nics) ≡ first_entry k
first-nic k low high = sym (first-by k (omega arith) ∙ rw (lt-leb extra_targets k high, le-leb extra_nics k low))

first-low : tabulate (λ (k : ℕ). leb (first_entry k) entry_count) 0 18 ≡ tabulate (λ (k : ℕ). true) 0 18
unfolding tabulate first_entry sum_to kind_of
first-low = refl

pub first-most : (k : ℕ) → k ≤ slot_count → first_entry k ≤ entry_count
first-most k h = leb-true (first_entry k) entry_count (tabulate-equal (λ (k : ℕ). leb (first_entry k) entry_count) (λ (k : ℕ). true) 18 first-low k (omega arith))

-- past the last slot stands slot 0, with one string
past_by : (d : ℕ) → first_entry (slot_count + d) ≡ entry_count + d
unfolding first_entry sum_to kind_of
past_by zero = refl
past_by (suc d) =
    let more : slot_count + suc d ≡ suc (slot_count + d) = omega arith in
    let one : length (kind_of (slot_count + d)).string_fields
    ≡ 1 = ap (λ (kind : Kind). length kind.string_fields) (kind-past (slot_count + d) (omega arith)) in
    rw more (omega (arith, past_by d))

pub first_past : (k : ℕ) → slot_count ≤ k → entry_count + (k - slot_count) ≡ first_entry k
first_past k h =
    let same : slot_count + (k - slot_count) ≡ k = omega arith in
    sym (past_by (k - slot_count)) ∙ ap first_entry same
