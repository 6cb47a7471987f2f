-- The fields of the record of an accepted table stand in the table: those of the header and of Control at their places, those
-- of a structure that is present in it, a string where its words say.
--     holds-slot, source-slot                                    the group of a slot
--     structure-held, present-held, index-held, entry-held       the record by slot and by entry
--     plain-some, plain-none, plain-field, plain-inside, plain-length    a field that is no string
--     string-field                                               a string
--     absent-field                                               a field of a structure that is absent
-- Assumes nothing.
use Rattle.std.specs.Prelude.{None, Some, option_map}
use mathlib.Core.Path.{◌≡◌, refl, ap, ◌∙◌}
use mathlib.Core.Bool.{Bool, true, false, cond, ◌||◌}
use mathlib.Core.List.{List}
use Prim.Native.Nat.{ℕ, zero, suc, ◌+◌, ◌-◌, ◌≤◌, ◌<◌}
use native.Mathlib.Decide.{dec_lt}
use native.Mathlib.Omega.{arith}
use borrow.Author.Tests.{le-ltb, le-leb, lt-leb, ne_eqb}
use lib.ListN.{length, get_or}
use lib.Dec.{eqb, ltb}
use Rattle.octets.specs.Octets.{part, bytes_past}
use Rattle.octets.proofs.ReadLaws.{part_length, part-within, bytes-part}
use Rattle.ibft_layout.specs.Layout.{kind_of, flags_at, slot_count, entry_count, first_entry}
use Rattle.ibft_table.specs.Table.{starts_of, index_in, holds_in, start_of, present, size_of, offset_of, holds_entry}
use Rattle.ibft_table.specs.Check.{check_of}
use Rattle.ibft_table.specs.Record.{listed, shown_if, body_size, content_in, content_of, record_of}
use Rattle.table_header.specs.Verdict.{Accepted}
use Rattle.ibft_table_laws.proofs.LayoutLaws.{slot-entry, slot-entry-owner}
use Rattle.ibft_table_laws.proofs.RecordLaws.{structure-listed, index_listed, entry_listed}
use Rattle.ibft_table_laws.proofs.TableLaws.{length-least, length-le, slot-end-le}
use Rattle.ibft_build_rules.specs.Plan.{is_present}
use Rattle.record_text.specs.Fields.{first_structure, is_text, plain_count, field_count, group_of, place_in, field_of}
use Rattle.record_text.specs.Enter.{group_count}
use Rattle.record_text.specs.Tell.{kind_number, within, structure_field, record_field}
use Rattle.record_text.proofs.FieldFitsLaws.{kind_in, strings_in, kind-slot, kind-fits, field-text, field_fits}

-- group g is in the table: the header, Control, a structure that is present
abbrev pub holds_group : List ℕ → ℕ → Bool
holds_group t g = ltb g first_structure || present t (g - first_structure)

-- where its fields are counted from
unfoldable pub source : List ℕ → ℕ → ℕ
source t g = cond (eqb g 0) 10 (cond (eqb g 1) 39 (start_of t (g - first_structure)))

pub holds-slot : (t : List ℕ) (k : ℕ) → holds_group t (first_structure + k) ≡ present t k
holds-slot t k =
    let slot : first_structure + k - first_structure ≡ k = omega arith in
    rw (le-ltb (first_structure + k) first_structure (omega arith), slot)

pub source-slot : (t : List ℕ) (k : ℕ) → source t (first_structure + k) ≡ start_of t k
unfolding source
source-slot t k =
    let slot : first_structure + k - first_structure ≡ k = omega arith in
    rw (ne_eqb (first_structure + k) 0 (λ e. omega arith), ne_eqb (first_structure + k) 1 (λ e. omega arith), slot)

shown-present : (b : Bool) (x : List ℕ) → is_present (shown_if b x) ≡ b
unfolding is_present
shown-present true x = refl
shown-present false x = refl

module _ (t : List ℕ) where
  module _ (k : ℕ) (h : k < slot_count) where
    pub structure-held : get_or (record_of t).structures k None ≡ shown_if (present t k) (part t (start_of t k + 5) (body_size (kind_of k)))
    unfolding record_of content_of content_in
    structure-held = structure-listed (content_of t) k h

    pub present-held : is_present (get_or (record_of t).structures k None) ≡ present t k
    present-held = ap is_present structure-held ∙ shown-present (present t k) _

    pub index-held : get_or (record_of t).indices k 0 ≡ index_in (starts_of t) t k
    unfolding record_of content_of content_in
    index-held = index_listed (content_of t) k h

  pub entry-held : (n : ℕ) → n < entry_count → get_or (record_of t).entries n None ≡ shown_if (holds_entry t n) (part t (offset_of t n) (size_of t n))
  unfolding record_of content_of content_in
  entry-held n h = entry_listed (content_of t) n h

  -- ---- fields of a structure

  module _ (k : ℕ) (h : k < slot_count) where
    structure-field : (n : ℕ) → record_field (record_of t) (first_structure + k) n ≡ structure_field (record_of t) k (kind_in k) n
    unfolding record_field
    structure-field n =
        let slot : first_structure + k - first_structure ≡ k = omega arith in
        rw (ne_eqb (first_structure + k) 0 (λ e. omega arith), ne_eqb (first_structure + k) 1 (λ e. omega arith), slot, kind-slot k)

    -- one that is no string
    module _ (n : ℕ) (plain : n < plain_count (kind_in k)) where
      plain-is : record_field (record_of t) (first_structure + k) n
          ≡ option_map (within (field_of (kind_in k) n)) (shown_if (present t k) (part t (start_of t k + 5) (body_size (kind_of k))))
      unfolding structure_field
      plain-is =
          let fits = kind-fits k h in
          let text : is_text (field_of (kind_in k) n).notation ≡ false =
          field-text (kind_in k) n fits.high (omega (arith, fits.fields)) ∙ lt-leb (plain_count (kind_in k)) n plain in
          structure-field n ∙ rw (text, structure-held k h)

      pub plain-some : present t k ≡ true
          → record_field (record_of t) (first_structure + k) n ≡ Some (part t (start_of t k + (field_of (kind_in k) n).at) (field_of (kind_in k) n).width)
      plain-some on =
          let fits = field_fits k n h (omega (arith, (kind-fits k h).fields)) in
          let at : ℕ = (field_of (kind_in k) n).at in
          let size : ℕ = (field_of (kind_in k) n).width in
          let place : start_of t k + 5 + (at - flags_at) ≡ start_of t k + at = omega (arith, fits.from) in
          let inside : at - flags_at + size ≤ body_size (kind_of k) = omega (arith, fits.from, fits.plain plain) in
          plain-is ∙ rw (on, part-within t (start_of t k + 5) (body_size (kind_of k)) (at - flags_at) size inside, place)

      pub plain-none : present t k ≡ false → record_field (record_of t) (first_structure + k) n ≡ None
      plain-none off = plain-is ∙ rw off

    pub string-field : (m : ℕ) → m < strings_in k → record_field (record_of t) (first_structure + k) (plain_count (kind_in k) + m)
        ≡ shown_if (holds_entry t (first_entry k + m)) (part t (offset_of t (first_entry k + m)) (size_of t (first_entry k + m)))
    unfolding structure_field
    string-field m l =
        let fits = kind-fits k h in
        let n : ℕ = plain_count (kind_in k) + m in
        let text : is_text (field_of (kind_in k) n).notation ≡ true =
        field-text (kind_in k) n fits.high (omega (arith, fits.fields)) ∙ le-leb (plain_count (kind_in k)) n (omega arith) in
        let own : n - plain_count (kind_in k) ≡ m = omega arith in
        structure-field n ∙ rw (text, own, entry-held (first_entry k + m) (slot-entry k m h l))

    pub absent-field : (n : ℕ) → n < field_count (kind_in k) → present t k ≡ false → record_field (record_of t) (first_structure + k) n ≡ None
    unfolding holds_in
    absent-field n l off =
        elim (dec_lt n (plain_count (kind_in k))) [
          | yes plain ↦ plain-none n plain off
          | no plain ↦
              let m : ℕ = n - plain_count (kind_in k) in
              let below : m < strings_in k = omega (arith, (kind-fits k h).fields) in
              let z : n ≡ plain_count (kind_in k) + m = omega arith in
              rw z (string-field m below ∙ rw (slot-entry-owner k m h below, off))
        ]

-- ---- fields of any group

module _ (t : List ℕ) (ok : check_of t ≡ Accepted) where
  abbrev Stands : ℕ → ℕ → Type 0
  Stands g n =
      (record_field (record_of t) g n ≡ Some (part t (source t g + (field_of (kind_number g) n).at) (field_of (kind_number g) n).width))
      × (source t g + ((field_of (kind_number g) n).at + (field_of (kind_number g) n).width) ≤ length t)

  header-stands : (n : ℕ) → n < plain_count 0 → Stands 0 n
  unfolding record_field record_of listed content_of content_in source kind_number plain_count field_count field_of place_in group_of
  header-stands zero h = (refl, omega (arith, length-least t ok, length-le t ok))
  header-stands (suc zero) h = (refl, omega (arith, length-least t ok, length-le t ok))
  header-stands (suc (suc n)) h = absurd (omega arith)

  control-stands : (n : ℕ) → n < plain_count 1 → Stands 1 n
  unfolding record_field record_of listed content_of content_in source kind_number plain_count field_count field_of place_in group_of bytes_past
  control-stands zero h =
      let long : 54 ≤ length t = omega (arith, length-least t ok, length-le t ok) in
      (ap Some (bytes-part t 53 1 long), long)
  control-stands (suc n) h = absurd (omega arith)

  structure-stands : (k n : ℕ) → k < slot_count → present t k ≡ true → n < plain_count (kind_in k) → Stands (first_structure + k) n
  structure-stands k n h on l =
      let fits = field_fits k n h (omega (arith, (kind-fits k h).fields)) in
      rw (source-slot t k, kind-slot k)
      (plain-some t k h n l on, omega (arith, fits.ends, slot-end-le t ok k h on, length-le t ok))

  field-stands : (g n : ℕ) → g < group_count → holds_group t g ≡ true → n < plain_count (kind_number g) → Stands g n
  unfolding kind_number
  field-stands zero n h on l = header-stands n l
  field-stands (suc zero) n h on l = control-stands n l
  field-stands (suc (suc k)) n h on l =
      let z : suc (suc k) ≡ first_structure + k = omega arith in
      let there : present t k ≡ true = rw (holds-slot t k) at (rw z at on) in
      let plain : n < plain_count (kind_in k) = rw (kind-slot k) at (rw z at l) in
      rw z (structure-stands k n (omega arith) there plain)

  module _ (g n : ℕ) (h : g < group_count) (on : holds_group t g ≡ true) (l : n < plain_count (kind_number g)) where
    pub plain-field : record_field (record_of t) g n ≡ Some (part t (source t g + (field_of (kind_number g) n).at) (field_of (kind_number g) n).width)
    plain-field = (field-stands g n h on l).0

    pub plain-inside : source t g + ((field_of (kind_number g) n).at + (field_of (kind_number g) n).width) ≤ length t
    plain-inside = (field-stands g n h on l).1

    pub plain-length : length (part t (source t g + (field_of (kind_number g) n).at) (field_of (kind_number g) n).width) ≡ (field_of (kind_number g) n).width
    plain-length =
        part_length t (source t g + (field_of (kind_number g) n).at) (field_of (kind_number g) n).width (omega (arith, plain-inside))
