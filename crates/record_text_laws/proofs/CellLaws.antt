-- The map of the record range. Each of its bytes belongs to one cell: that of a field (the bytes of its value; of a string its
-- words and its mark), or that of a structure's seat (its mark; of an extra its Index). Since the map is a function, no two
-- cells have a byte in common.
--     cell-counts, cell-seat, cell_field, cell-slot, cell-words, cell-mark     what stands where
--     cell-keeps                                                               a write into a cell leaves every other
-- Assumes nothing.
use mathlib.Core.Path.{◌≡◌, refl, sym, ap, ◌∙◌, subst}
use mathlib.Core.Bool.{cond}
use mathlib.Core.List.{List}
use Prim.Native.Nat.{ℕ, suc, ◌+◌, ◌-◌, ◌*◌, ◌/◌, ◌%◌, ◌≤◌, ◌<◌}
use native.Mathlib.Decide.{dec_lt}
use native.Mathlib.Omega.{arith}
use borrow.Author.Tests.{lt-ltb, le-ltb}
use lib.ListN.{length}
use lib.Dec.{leb, ltb}
use Rattle.octets.specs.Counting.{count, tabulate}
use Rattle.octets.specs.Octets.{byte, write}
use Rattle.octets.proofs.CountingLaws.{tabulate-equal}
use Rattle.octets.proofs.WriteLaws.{write-before, write-after}
use Rattle.ibft_layout.specs.Layout.{Kind, nic, target, kind_of, slot_count, named_count, named_entries, extra_nics, extra_targets, owner_of, first_entry}
use Rattle.ibft_layout.proofs.LayoutLaws.{owner-later}
use Rattle.ibft_table_laws.proofs.LayoutLaws.{slot-entry-owner, nic-slot, target-slot}
use Rattle.ibft_build_rules.specs.RecordRange.{marks_at, nics_at, extra_size, nic_image, named_image}
use Rattle.record_text.specs.Fields.{first_structure, field_count, plain_count, field_of}
use Rattle.record_text.specs.Enter.{group_count}
use Rattle.record_text.specs.Tell.{kind_number}
use Rattle.record_text.specs.Computing.{computing}
use Rattle.record_text.specs.declared.fields.FieldLayout.{FieldLayout}
use Rattle.record_text.proofs.FieldFitsLaws.{kind_in, strings_in, seat, end_of, field_at, kind-slot, kind-fits, field-own, field_fits, word-field, grid-equal}
use Rattle.record_text_laws.proofs.RangePlaceLaws.{image_by, mark_by, seat_by, words_by, base_by, base-slot, low_groups, low-base, low_end, Placed}

-- ---- the map

-- the number of the cell of field n of group g; `seat` is that of the group's seat
abbrev pub cell_of : ℕ → ℕ → ℕ
cell_of g n = 16 * g + n

-- byte j of the structure of slot k
abbrev in_slot : ℕ → ℕ → ℕ
in_slot k j = cell_of (first_structure + k) (field_at (kind_of k).id j)

-- below the extras; the two numbers of extras are in no group's cell
low_cell : ℕ → ℕ
low_cell i =
    cond (ltb i 14) (cell_of 0 (field_at 0 i))
    (cond (ltb i marks_at) (cell_of 1 0)
    (cond (ltb i (marks_at + named_count)) (cell_of (first_structure + (i - marks_at)) seat)
    (cond (ltb i (named_image 0))
    (let n : ℕ = i - (marks_at + named_count) in
    cell_of (first_structure + owner_of n) (plain_count (kind_of (owner_of n)).id + (n - first_entry (owner_of n))))
    (cond (ltb i nics_at)
    (let k : ℕ = count (named_count - 1) (λ (k : ℕ). leb (named_image (suc k)) i) in in_slot k (i - named_image k))
    (cell_of group_count 0)))))

pub cell : ℕ → ℕ → ℕ
cell nics i =
    cond (ltb i (nic_image 0)) (low_cell i)
    (cond (ltb i (nic_image nics))
    (in_slot (extra_nics + (i - nic_image 0) / extra_size nic) ((i - nic_image 0) % extra_size nic))
    (in_slot (extra_targets + (i - nic_image nics) / extra_size target) ((i - nic_image nics) % extra_size target)))

-- ---- below the extras, by computation

low-counts : tabulate (λ (i : ℕ). low_cell (nics_at + i)) 0 2 ≡ tabulate (λ (i : ℕ). cell_of group_count 0) 0 2
unfolding computing low_cell
low-counts = refl

low-seats : tabulate (λ (k : ℕ). low_cell (marks_at + k)) 0 named_count ≡ tabulate (λ (k : ℕ). cell_of (first_structure + k) seat) 0 named_count
unfolding computing low_cell
low-seats = refl

abbrev mark_cell : ℕ → ℕ
mark_cell n = cell_of (first_structure + owner_of n) (plain_count (kind_in (owner_of n)) + (n - first_entry (owner_of n)))

low-marks : tabulate (λ (n : ℕ). low_cell (marks_at + named_count + n)) 0 named_entries ≡ tabulate mark_cell 0 named_entries
unfolding computing low_cell
low-marks = refl

abbrev low_bytes : (ℕ → ℕ → ℕ → ℕ) → ℕ → ℕ → List ℕ
low_bytes f g n = tabulate (f g n) 0 (field_of (kind_number g) n).width

abbrev low_own : ℕ → ℕ → ℕ → ℕ
low_own g n j = low_cell (base_by 0 g + ((field_of (kind_number g) n).at + j))

low-owns : tabulate (λ (g : ℕ). tabulate (low_bytes low_own g) 0 (field_count (kind_number g))) 0 low_groups
    ≡ tabulate (λ (g : ℕ). tabulate (low_bytes (λ (g n j : ℕ). cell_of g n) g) 0 (field_count (kind_number g))) 0 low_groups
unfolding computing low_cell field_at base_by image_by
low-owns = refl

-- ---- what stands where

module _ (nics : ℕ) where
  low-is : (i : ℕ) → i < nic_image 0 → cell nics i ≡ low_cell i
  unfolding cell
  low-is i h = rw (lt-ltb i (nic_image 0) h)

  -- an extra's structure, with the marks behind it
  nic-cell : (q j : ℕ) → q < nics → j < extra_size nic → cell nics (nic_image q + j) ≡ in_slot (extra_nics + q) j
  unfolding cell nic_image
  nic-cell q j h l =
      let i : ℕ = nics_at + 2 + extra_size nic * q + j in
      let turn : (i - (nics_at + 2)) / extra_size nic ≡ q = omega arith in
      let rest : (i - (nics_at + 2)) % extra_size nic ≡ j = omega arith in
      rw (le-ltb i (nics_at + 2) (omega arith), lt-ltb i (nics_at + 2 + extra_size nic * nics) (omega arith), turn, rest)

  target-cell : (q j : ℕ) → j < extra_size target → cell nics (nic_image nics + extra_size target * q + j) ≡ in_slot (extra_targets + q) j
  unfolding cell nic_image
  target-cell q j l =
      let first : ℕ = nics_at + 2 + extra_size nic * nics in
      let i : ℕ = first + extra_size target * q + j in
      let turn : (i - first) / extra_size target ≡ q = omega arith in
      let rest : (i - first) % extra_size target ≡ j = omega arith in
      rw (le-ltb i (nics_at + 2) (omega arith), le-ltb i first (omega arith), turn, rest)

  extra-cell : (k j : ℕ) → named_count ≤ k → k < slot_count → Placed nics (first_structure + k) → j < extra_size (kind_of k)
      → cell nics (image_by nics k + j) ≡ in_slot k j
  unfolding image_by
  extra-cell k j low high placed h =
      elim (dec_lt k extra_targets) [
        | yes l ↦
            let z : extra_nics + (k - extra_nics) ≡ k = omega arith in
            let kind : kind_of k ≡ nic = ap kind_of (sym z) ∙ nic-slot (k - extra_nics) (omega arith) in
            rw (le-ltb k named_count low, lt-ltb k extra_targets l)
            (nic-cell (k - extra_nics) j (omega (arith, placed (omega arith))) (subst (λ (κ : Kind). j < extra_size κ) kind h) ∙ ap (λ (k : ℕ). in_slot k j) z)
        | no l ↦
            let z : extra_targets + (k - extra_targets) ≡ k = omega arith in
            let kind : kind_of k ≡ target = ap kind_of (sym z) ∙ target-slot (k - extra_targets) (omega arith) in
            rw (le-ltb k named_count low, le-ltb k extra_targets (omega arith))
            (target-cell (k - extra_targets) j (subst (λ (κ : Kind). j < extra_size κ) kind h) ∙ ap (λ (k : ℕ). in_slot k j) z)
      ]

  pub cell-counts : (i : ℕ) → i < 2 → cell nics (nics_at + i) ≡ cell_of group_count 0
  unfolding nic_image
  cell-counts i h =
      low-is (nics_at + i) (omega arith)
      ∙ tabulate-equal (λ (i : ℕ). low_cell (nics_at + i)) (λ (i : ℕ). cell_of group_count 0) 2 low-counts i h

  pub cell-seat : (k : ℕ) → k < slot_count → Placed nics (first_structure + k) → cell nics (seat_by nics k) ≡ cell_of (first_structure + k) seat
  unfolding seat_by nic_image field_at
  cell-seat k h placed =
      elim (dec_lt k named_count) [
        | yes l ↦
            rw (lt-ltb k named_count l)
            (low-is (marks_at + k) (omega arith)
            ∙ tabulate-equal (λ (k : ℕ). low_cell (marks_at + k)) (λ (k : ℕ). cell_of (first_structure + k) seat) named_count low-seats k l)
        | no l ↦
            let fits = field_fits k 0 h (omega (arith, (kind-fits k h).some, (kind-fits k h).fields)) in
            rw (le-ltb k named_count (omega arith))
            (extra-cell k 4 (omega arith) h placed (omega (arith, fits.from, fits.ends))
            ∙ rw (lt-ltb 4 (field_of (kind_in k) 0).at (omega (arith, fits.from))))
      ]

  low_field : (g n j : ℕ) → g < low_groups → n < field_count (kind_number g) → j < (field_of (kind_number g) n).width
      → cell nics (base_by nics g + ((field_of (kind_number g) n).at + j)) ≡ cell_of g n
  unfolding nic_image
  low_field g n j h l m =
      rw (low-base nics g h)
      (low-is (base_by 0 g + ((field_of (kind_number g) n).at + j)) (omega (arith, low_end g n h l))
      ∙ tabulate-equal (low_own g n) (λ (j : ℕ). cell_of g n) (field_of (kind_number g) n).width
      (grid-equal (low_bytes low_own) (low_bytes (λ (g n j : ℕ). cell_of g n)) low_groups (λ (g : ℕ). field_count (kind_number g)) low-owns g n h l) j m)

  extra-field : (k n j : ℕ) → named_count ≤ k → k < slot_count → Placed nics (first_structure + k) → n < field_count (kind_in k) → j < (field_of (kind_in k) n).width
      → cell nics (image_by nics k + ((field_of (kind_in k) n).at + j)) ≡ cell_of (first_structure + k) n
  extra-field k n j low h placed l m =
      extra-cell k ((field_of (kind_in k) n).at + j) low h placed (omega (arith, (field_fits k n h l).ends))
      ∙ ap (cell_of (first_structure + k)) (field-own (kind_in k) n j (kind-fits k h).high l m)

  pub cell_field : (g n j : ℕ) → g < group_count → Placed nics g → n < field_count (kind_number g) → j < (field_of (kind_number g) n).width
      → cell nics (base_by nics g + ((field_of (kind_number g) n).at + j)) ≡ cell_of g n
  cell_field g n j h placed l m =
      elim (dec_lt g low_groups) [
        | yes low ↦ low_field g n j low l m
        | no low ↦
            let k : ℕ = g - first_structure in
            let z : g ≡ first_structure + k = omega arith in
            let q : kind_number g ≡ kind_in k = ap kind_number z ∙ kind-slot k in
            let b : base_by nics g ≡ image_by nics k = ap (base_by nics) z ∙ base-slot nics k in
            rw (q, b)
            (extra-field k n j (omega arith) (omega arith) (λ x. omega (arith, placed (omega arith))) (rw q at l)
            (rw q at m) ∙ ap (λ (g : ℕ). cell_of g n) (sym z))
      ]

  pub cell-slot : (k n j : ℕ) → k < slot_count → Placed nics (first_structure + k) → n < field_count (kind_in k) → j < (field_of (kind_in k) n).width
      → cell nics (image_by nics k + ((field_of (kind_in k) n).at + j)) ≡ cell_of (first_structure + k) n
  cell-slot k n j h placed =
      rw (kind-slot k, base-slot nics k) at (cell_field (first_structure + k) n j (omega arith) placed)

  pub cell-words : (k m j : ℕ) → k < slot_count → Placed nics (first_structure + k) → m < strings_in k → j < 4
      → cell nics (words_by nics k m + j) ≡ cell_of (first_structure + k) (plain_count (kind_in k) + m)
  unfolding words_by
  cell-words k m j h placed l few =
      let n : ℕ = plain_count (kind_in k) + m in
      let f = word-field k m h l in
      let place : image_by nics k + ((field_of (kind_in k) n).at + j) ≡ image_by nics k + ((kind_of k).strings_at + 4 * m) + j =
      omega (arith, ap (λ (f : FieldLayout). f.at) f) in
      ap (cell nics) (sym place)
      ∙ cell-slot k n j h placed (omega (arith, (kind-fits k h).fields)) (omega (arith, ap (λ (f : FieldLayout). f.width) f))

  pub cell-mark : (k m : ℕ) → k < slot_count → Placed nics (first_structure + k) → m < strings_in k
      → cell nics (mark_by nics (first_entry k + m)) ≡ cell_of (first_structure + k) (plain_count (kind_in k) + m)
  unfolding mark_by nic_image field_at
  cell-mark k m h placed l =
      let e : ℕ = first_entry k + m in
      let owner : owner_of e ≡ k = slot-entry-owner k m h l in
      let own : e - first_entry k ≡ m = omega arith in
      elim (dec_lt e named_entries) [
        | yes low ↦
            rw (lt-ltb e named_entries low)
            (low-is (marks_at + named_count + e) (omega arith)
            ∙ tabulate-equal (λ (n : ℕ). low_cell (marks_at + named_count + n)) mark_cell named_entries low-marks e low
            ∙ rw (owner, own))
        | no low ↦
            let size : ℕ = (kind_of k).length in
            let end : end_of (kind_in k) ≡ size = (kind-fits k h).ends in
            let fits = field_fits k 0 h (omega (arith, (kind-fits k h).some, (kind-fits k h).fields)) in
            let far : image_by nics k + size + m ≡ image_by nics k + (size + m) = omega arith in
            let behind : size + m - size ≡ m = omega arith in
            rw (le-ltb e named_entries (omega arith), owner, own, far)
            (extra-cell k (size + m) (omega (arith, owner-later e (omega arith))) h placed (omega arith)
            ∙ rw (le-ltb (size + m) (field_of (kind_in k) 0).at (omega (arith, fits.ends)), end, le-ltb (size + m) size (omega arith), behind))
      ]

-- ---- a write into a cell leaves every other

pub cell-keeps : (nics : ℕ) (t : List ℕ) (a : ℕ) (ys : List ℕ) (c i : ℕ) → ((j : ℕ) → j < length ys → cell nics (a + j) ≡ c) → (cell nics i ≡ c → ⊥)
    → byte (write t a ys) i ≡ byte t i
cell-keeps nics t a ys c i own other =
    elim (dec_lt i a) [
      | yes l ↦ write-before t a ys i l
      | no l ↦ elim (dec_lt i (a + length ys)) [
        | yes m ↦ absurd (other (ap (cell nics) (omega arith) ∙ own (i - a) (omega arith)))
        | no m ↦ write-after t a ys i (omega arith)
      ]
    ]
