-- Where things stand in a record range, by the number of its extra NICs, and that all of what is in use lies below its size.
--     image-by, mark-by, size-by, base-slot                    the places of a range
--     mark-apart                                               a string's words and its mark stand apart
--     low-base, low_end                                        the header, Control and the named slots stand below the extras
--     used-named                                               and are in use
--     field-inside, seat-inside, words_inside, mark-inside     what is in use lies in the range
-- Assumes nothing.
use mathlib.Core.Path.{◌≡◌, refl, ap, ◌∙◌, subst}
use mathlib.Core.Logic.{◌⊎◌, inl, inr}
use mathlib.Core.Bool.{Bool, true, cond}
use mathlib.Core.List.{List}
use Prim.Native.Nat.{ℕ, ◌+◌, ◌-◌, ◌*◌, ◌≤◌, ◌<◌}
use native.Mathlib.Decide.{dec_lt}
use native.Mathlib.Omega.{arith}
use borrow.Author.Tests.{lt-ltb, le-ltb, leb-true}
use lib.Dec.{leb, ltb}
use Rattle.octets.specs.Counting.{tabulate}
use Rattle.ibft_layout.specs.Layout.{nic, target, kind_of, slot_count, named_count, named_entries, extra_nics, extra_targets, owner_of, first_entry}
use Rattle.ibft_layout.proofs.LayoutLaws.{owner-later}
use Rattle.ibft_table_laws.proofs.LayoutLaws.{slot-fits, slot-entry-owner, nic-slot, target-slot}
use Rattle.ibft_build_rules.specs.RecordRange.{marks_at, nics_at, nics_given, targets_given, extra_size, nic_image, target_image, range_size}
use Rattle.ibft_build_rules.specs.RecordRange.{named_image, image_at, mark_at}
use Rattle.record_text.specs.Fields.{first_structure, field_count, plain_count, field_of}
use Rattle.record_text.specs.Enter.{group_count}
use Rattle.record_text.specs.Tell.{kind_number}
use Rattle.record_text.specs.Computing.{computing}
use Rattle.record_text.specs.declared.fields.FieldLayout.{FieldLayout}
use Rattle.record_text.proofs.FieldFitsLaws.{kind_in, strings_in, kind-slot, kind-fits, field_fits, word-field, grid-equal}

-- ---- places

-- the image of slot k, the mark of entry n, the seat of slot k: the mark of a named one, the Index of an extra
unfoldable pub image_by : ℕ → ℕ → ℕ
image_by nics k =
    cond (ltb k named_count) (named_image k)
    (cond (ltb k extra_targets) (nic_image (k - extra_nics)) (nic_image nics + extra_size target * (k - extra_targets)))

unfoldable pub mark_by : ℕ → ℕ → ℕ
mark_by nics n =
    cond (ltb n named_entries) (marks_at + named_count + n)
    (image_by nics (owner_of n) + (kind_of (owner_of n)).length + (n - first_entry (owner_of n)))

unfoldable pub seat_by : ℕ → ℕ → ℕ
seat_by nics k = cond (ltb k named_count) (marks_at + k) (image_by nics k + 4)

-- where the words of string m of slot k stand
unfoldable pub words_by : ℕ → ℕ → ℕ → ℕ
words_by nics k m = image_by nics k + ((kind_of k).strings_at + 4 * m)

-- where the fields of group g are counted from
unfoldable pub base_by : ℕ → ℕ → ℕ
base_by nics g = cond (ltb g first_structure) 0 (image_by nics (g - first_structure))

module _ (r : List ℕ) (nics : ℕ) (e : nics_given r ≡ nics) where
  pub image-by : (k : ℕ) → image_at r k ≡ image_by nics k
  unfolding image_at image_by target_image
  image-by k = rw e

  pub mark-by : (n : ℕ) → mark_at r n ≡ mark_by nics n
  unfolding mark_at mark_by
  mark-by n = rw image-by

pub base-slot : (nics k : ℕ) → base_by nics (first_structure + k) ≡ image_by nics k
unfolding base_by
base-slot nics k =
    let z : first_structure + k - first_structure ≡ k = omega arith in
    rw (le-ltb (first_structure + k) first_structure (omega arith), z)

-- images stand behind the named slots' marks; so the words of a string and its mark stand apart
image-low : (nics k : ℕ) → marks_at + named_count + named_entries ≤ image_by nics k
unfolding image_by named_image nic_image
image-low nics k =
    elim (dec_lt k named_count) [
      | yes l ↦ rw (lt-ltb k named_count l) (omega arith)
      | no l ↦ elim (dec_lt k extra_targets) [
        | yes m ↦ rw (le-ltb k named_count (omega arith), lt-ltb k extra_targets m) (omega arith)
        | no m ↦ rw (le-ltb k named_count (omega arith), le-ltb k extra_targets (omega arith)) (omega arith)
      ]
    ]

pub mark-apart : (nics k m : ℕ) → k < slot_count → m < strings_in k
    → (mark_by nics (first_entry k + m) < words_by nics k m) ⊎ (words_by nics k m + 4 ≤ mark_by nics (first_entry k + m))
unfolding mark_by words_by
mark-apart nics k m h l =
    let e : ℕ = first_entry k + m in
    elim (dec_lt e named_entries) [
      | yes low ↦ inl (rw (lt-ltb e named_entries low) (omega (arith, image-low nics k)))
      | no low ↦ inr (rw (le-ltb e named_entries (omega arith), slot-entry-owner k m h l) (omega (arith, (slot-fits k h).words)))
    ]

-- ---- below the extras

-- the header, Control and the named slots
abbrev pub low_groups : ℕ
low_groups = first_structure + named_count

pub low-base : (nics g : ℕ) → g < low_groups → base_by nics g ≡ base_by 0 g
unfolding base_by image_by
low-base nics g h =
    elim (dec_lt g first_structure) [
      | yes l ↦ rw (lt-ltb g first_structure l)
      | no l ↦ rw (lt-ltb (g - first_structure) named_count (omega arith))
    ]

low_ends : ℕ → ℕ → Bool
low_ends g n = leb (base_by 0 g + ((field_of (kind_number g) n).at + (field_of (kind_number g) n).width)) nics_at

low-ends : tabulate (λ (g : ℕ). tabulate (low_ends g) 0 (field_count (kind_number g))) 0 low_groups
    ≡ tabulate (λ (g : ℕ). tabulate (λ (n : ℕ). true) 0 (field_count (kind_number g))) 0 low_groups
unfolding computing low_ends base_by image_by
low-ends = refl

pub low_end : (g n : ℕ) → g < low_groups → n < field_count (kind_number g)
    → base_by 0 g + ((field_of (kind_number g) n).at + (field_of (kind_number g) n).width) ≤ nics_at
unfolding low_ends
low_end g n h l =
    leb-true (base_by 0 g + ((field_of (kind_number g) n).at + (field_of (kind_number g) n).width)) nics_at
    (grid-equal low_ends (λ (g n : ℕ). true) low_groups (λ (g : ℕ). field_count (kind_number g)) low-ends g n h l)

-- ---- what is in use

-- group g has its place in the range: the header, Control, a named slot, one of the extra NICs that there are, an extra target
abbrev pub Placed : ℕ → ℕ → Type 0
Placed nics g = g < first_structure + extra_targets → g < first_structure + extra_nics + nics

-- group g is in use, where there are so many extras
pub record Used (nics targets g : ℕ) : Type 0 where
  pub placed : Placed nics g
  pub below : first_structure + extra_targets ≤ g → g < first_structure + extra_targets + targets

module _ (nics targets : ℕ) where
  -- the named groups are
  pub used-named : (g : ℕ) → g < low_groups → Used nics targets g
  used-named g h = record { placed = λ l. omega arith; below = λ l. absurd (omega arith) }

  -- the size of the range
  unfoldable pub size_by : ℕ
  size_by = nic_image nics + extra_size target * targets

  pub size-by : (r : List ℕ) → nics_given r ≡ nics → targets_given r ≡ targets → range_size r ≡ size_by
  unfolding range_size target_image size_by
  size-by r p q = rw (p, q)

  extra-inside : (k : ℕ) → named_count ≤ k → k < slot_count → Used nics targets (first_structure + k) → image_by nics k + extra_size (kind_of k) ≤ size_by
  unfolding size_by image_by nic_image
  extra-inside k low h used =
      elim (dec_lt k extra_targets) [
        | yes l ↦
            let kind : kind_of k ≡ nic = ap kind_of (omega arith) ∙ nic-slot (k - extra_nics) (omega arith) in
            rw (le-ltb k named_count low, lt-ltb k extra_targets l, kind) (omega (arith, used.placed (omega arith)))
        | no l ↦
            let kind : kind_of k ≡ target = ap kind_of (omega arith) ∙ target-slot (k - extra_targets) (omega arith) in
            rw (le-ltb k named_count low, le-ltb k extra_targets (omega arith), kind) (omega (arith, used.below (omega arith)))
      ]

  low-inside : nics_at + 2 ≤ size_by
  unfolding size_by nic_image
  low-inside = omega arith

  pub field-inside : (g n : ℕ) → g < group_count → Used nics targets g → n < field_count (kind_number g)
      → base_by nics g + ((field_of (kind_number g) n).at + (field_of (kind_number g) n).width) ≤ size_by
  field-inside g n h used l =
      elim (dec_lt g low_groups) [
        | yes low ↦ rw (low-base nics g low) (omega (arith, low-inside, low_end g n low l))
        | no low ↦
            let k : ℕ = g - first_structure in
            let z : g ≡ first_structure + k = omega arith in
            let q : kind_number g ≡ kind_in k = ap kind_number z ∙ kind-slot k in
            let b : base_by nics g ≡ image_by nics k = ap (base_by nics) z ∙ base-slot nics k in
            rw (q, b)
            (omega (
              arith,
              (field_fits k n (omega arith) (rw q at l)).ends,
              extra-inside k (omega arith) (omega arith) (subst (Used nics targets) z used),
            ))
      ]

  module _ (k : ℕ) (h : k < slot_count) (used : Used nics targets (first_structure + k)) where
    pub seat-inside : seat_by nics k < size_by
    unfolding seat_by
    seat-inside =
        elim (dec_lt k named_count) [
          | yes l ↦ rw (lt-ltb k named_count l) (omega (arith, low-inside))
          | no l ↦
              let fits = field_fits k 0 h (omega (arith, (kind-fits k h).some, (kind-fits k h).fields)) in
              rw (le-ltb k named_count (omega arith)) (omega (arith, extra-inside k (omega arith) h used, fits.from, fits.ends))
        ]

    pub words_inside : (m : ℕ) → m < strings_in k → words_by nics k m + 4 ≤ size_by
    unfolding words_by
    words_inside m l =
        let n : ℕ = plain_count (kind_in k) + m in
        let f = word-field k m h l in
        let fields = (kind-fits k h).fields in
        let whole = rw (kind-slot k, base-slot nics k) at (field-inside (first_structure + k) n (omega arith) used) in
        omega (arith, whole (omega arith), ap (λ (f : FieldLayout). f.at) f, ap (λ (f : FieldLayout). f.width) f)

    pub mark-inside : (m : ℕ) → m < strings_in k → mark_by nics (first_entry k + m) < size_by
    unfolding mark_by
    mark-inside m l =
        let e : ℕ = first_entry k + m in
        let owner : owner_of e ≡ k = slot-entry-owner k m h l in
        elim (dec_lt e named_entries) [
          | yes low ↦ rw (lt-ltb e named_entries low) (omega (arith, low-inside))
          | no low ↦ rw (le-ltb e named_entries (omega arith), owner) (omega (arith, extra-inside k (omega (arith, owner-later e (omega arith))) h used))
        ]
