-- The round trip: what is told of an accepted table is entered as its record. The image has every field that is told, zeros
-- elsewhere, and an IB part exactly where the table has one.
--     enters-what-is-told
-- Assumes nothing.
use Rattle.std.specs.Prelude.{None, Some}
use mathlib.Core.Path.{◌≡◌, refl, sym, ap, ◌∙◌}
use mathlib.Core.List.{List}
use mathlib.Core.Bool.{Bool, true, false, cond, not}
use Prim.Native.Nat.{ℕ, ◌+◌, ◌≤◌, ◌<◌}
use native.Mathlib.Nat.{zero-add}
use native.Mathlib.Omega.{arith}
use lib.ListN.{length, drop}
use lib.Seq.{get_or-drop}
use Rattle.octets.specs.Octets.{byte, bytes_at, all_zero, zeros, write}
use Rattle.octets.proofs.CountingLaws.{clash}
use Rattle.octets.proofs.ReadLaws.{part_at, bytes_same, bytes-from}
use Rattle.octets.proofs.WriteLaws.{length-write, length-zeros, get_d-zeros, write-at}
use Rattle.table_header.specs.Verdict.{Accepted, shown}
use Rattle.abft.specs.Abft.{check_of as abft_check, record_of as abft_record}
use Rattle.sbft.specs.Layout.{part_of, offset_of, absent}
use Rattle.sbft.specs.Check.{check_of as sbft_check}
use Rattle.sbft.specs.Readings.{start_in as start_fields, scsi_in, srp_in, ib_in, record_at, record_of as sbft_record}
use Rattle.sbft.specs.Write.{place_of as sbft_place, record_given}
use Rattle.family_text.specs.Fields.{abft, sbft, fields_of, field_count, field_of}
use Rattle.family_text.specs.Family.{text_family, stray_in}
use Rattle.family_text.specs.Enter.{image_size, mark_count, Draft, blank_draft, place_written, place_of, is_oem, Outcome, entered_from}
use Rattle.family_text.specs.Tell.{start_in, is_there, bytes_in, is_told, lines_text, verdict_of, table_text}
use Rattle.family_text.specs.Promises.{Bytes, ToldAndEntered, EntersWhatIsTold}
use Rattle.family_text.specs.declared.fields.FieldLayout.{FieldLayout}
use Rattle.family_text.proofs.ValueBackLaws.{zero-bytes}
use Rattle.family_text.proofs.HeldLaws.{Held, held}
use Rattle.family_text.proofs.PresentLaws.{offset-none, offset-set}
use Rattle.family_text.proofs.FamilyBackLaws.{own_family, family-told, none-stray}
use Rattle.family_text.proofs.EnteredLaws.{entered, lines-entered, bytes-are, field-alone, field-ends, kept, field-set}

module _ (family : ℕ) (t image : List ℕ) (small : Bytes t) (ok : verdict_of family t ≡ Accepted) (room : image_size ≤ length image) where
  all : (n : ℕ) → Held t (field_of family n)
  all = held family t ok

  -- what the lines leave
  abbrev left : Draft
  left = entered family t (blank_draft image) 0 (field_count family)

  fresh : (k : ℕ) → 0 ≤ k → byte (blank_draft image).given k ≡ 0
  unfolding blank_draft
  fresh k h = get_d-zeros mark_count k

  pub told-entered : entered_from family (table_text family t) image ≡ record { reason = 0; line = 0; field = 0; draft = left }
  unfolding entered_from table_text lines_text shown
  told-entered = rw ok (lines-entered family t small all (blank_draft image) 1 0 (field_count family) (omega arith) fresh)

  -- the text is of the family, and every line of it
  text-family : is_told t (field_of family 2) ≡ true → 2 < field_count family → text_family (table_text family t) ≡ own_family family
  unfolding text_family table_text lines_text shown
  text-family third h = rw ok (family-told family t 0 (field_count family) (omega arith) (omega arith) (omega arith) third)

  text-own : text_family (table_text family t) ≡ own_family family → stray_in (table_text family t) ≡ record { line = 0; family = 0 }
  unfolding stray_in table_text lines_text shown
  text-own of = rw of (rw ok (none-stray family t 1 0 (field_count family) (omega arith)))

  -- the image before: zeros
  blank-byte : (q : ℕ) → q < image_size → byte (blank_draft image).image q ≡ 0
  unfolding blank_draft
  blank-byte q h =
      ap (byte (write image 0 (zeros image_size))) (sym (zero-add q))
      ∙ write-at image 0 (zeros image_size) q (omega (arith, length-zeros image_size)) (omega arith) ∙ get_d-zeros image_size q

  blank-long : image_size ≤ length (blank_draft image).image
  unfolding blank_draft
  blank-long = omega (arith, length-write image 0 (zeros image_size))

  -- a field has the table's bytes where it is told, and where it is an OEM field
  module _ (n : ℕ) (low : n < field_count family) where
    abbrev f : FieldLayout
    f = field_of family n

    field-byte : (j : ℕ) → j < f.width → byte (bytes_in t f) j ≡ byte t (start_in t f.part + f.at + j)
    unfolding bytes_in
    field-byte j h = part_at t (start_in t f.part + f.at) f.width j h

    pub told_same : is_told t f ≡ true → (j : ℕ) → j < f.width → byte left.image (place_of family n + j) ≡ byte t (start_in t f.part + f.at + j)
    told_same told j h =
        field-set family t small all (blank_draft image) 0 (field_count family) n j (omega arith) (omega arith) (omega arith) blank-long told h
        ∙ bytes-are family t small all n told j h

    pub oem-same : is_oem f.notation ≡ true → (j : ℕ) → j < f.width → byte left.image (place_of family n + j) ≡ byte t (start_in t f.part + f.at + j)
    oem-same oem j h = go (is_told t f) refl
      where
        go : (b : Bool) → is_told t f ≡ b → byte left.image (place_of family n + j) ≡ byte t (start_in t f.part + f.at + j)
        go true told = told_same told j h
        go false off =
            kept family t small all (blank_draft image) 0 (field_count family) (place_of family n + j)
            (λ k a k-low told. field-alone family k n j (omega arith) low (λ z. clash (ap (λ (i : ℕ). is_told t (field_of family i)) (sym z) ∙ told) off) h)
            ∙ blank-byte (place_of family n + j) (omega (arith, field-ends family n))
            ∙ sym (zero_field ((all n).empty oem off))
          where
            zero_field : all_zero (bytes_in t f) ≡ true → byte t (start_in t f.part + f.at + j) ≡ 0
            zero_field z = sym (field-byte j h) ∙ zero-bytes (bytes_in t f) z j

-- ---- an aBFT

module _ (t image : List ℕ) (small : Bytes t) (ok : abft_check t ≡ Accepted) (room : image_size ≤ length image) where
  abft-ok : verdict_of abft t ≡ Accepted
  unfolding verdict_of
  abft-ok = ok

  abbrev abft_left : List ℕ
  abft_left = (left abft t image small abft-ok room).image

  abft-record : abft_record abft_left ≡ abft_record t
  unfolding abft_record place_of place_written field_of fields_of field_count start_in is_oem is_told is_there
  abft-record =
      let oem = oem-same abft t image small abft-ok room in
      let told = told_same abft t image small abft-ok room in
      let id : bytes_at abft_left 10 6 ≡ bytes_at t 10 6 = bytes_same abft_left t 10 10 6 (oem 0 (omega arith) refl) in
      let table : bytes_at abft_left 16 8 ≡ bytes_at t 16 8 = bytes_same abft_left t 16 16 8 (oem 1 (omega arith) refl) in
      let low : byte abft_left 36 ≡ byte t 36 = told 2 (omega arith) refl 0 (omega arith) in
      let high : byte abft_left 37 ≡ byte t 37 = told 2 (omega arith) refl 1 (omega arith) in
      let slot : byte abft_left 38 ≡ byte t 38 = told 3 (omega arith) refl 0 (omega arith) in
      let mac : bytes_at abft_left 40 6 ≡ bytes_at t 40 6 = bytes_same abft_left t 40 40 6 (told 4 (omega arith) refl) in
      rw (id, table, low, high, slot, mac)

  abft-third : is_told t (field_of abft 2) ≡ true
  unfolding field_of fields_of is_oem is_told is_there
  abft-third = refl

  abft-family : text_family (table_text abft t) ≡ abft
  unfolding own_family field_count fields_of
  abft-family = text-family abft t image small abft-ok room abft-third (omega arith)

  pub enters-abft : (o : Outcome) → o ≡ entered_from abft (table_text abft t) image
      → ToldAndEntered abft (table_text abft t) o (abft_record o.draft.image) (abft_record t)
  unfolding own_family
  enters-abft o is =
      let e = is ∙ told-entered abft t image small abft-ok room in
      record {
        of-family = abft-family;
        none-stray = text-own abft t image small abft-ok room abft-family;
        read = ap (λ (o : Outcome). o.reason) e;
        same = ap (λ (o : Outcome). abft_record o.draft.image) e ∙ abft-record;
      }

-- ---- an sBFT

-- a part of the image and of the table
part_same : (im t : List ℕ) (p s i n : ℕ) → ((j : ℕ) → j < n → byte im (p + i + j) ≡ byte t (s + i + j)) → bytes_at (drop p im) i n ≡ bytes_at (drop s t) i n
part_same im t p s i n h = bytes-from im p i n ∙ bytes_same im t (p + i) (s + i) n h ∙ sym (bytes-from t s i n)

byte-same : (im t : List ℕ) (p s i : ℕ) → byte im (p + i) ≡ byte t (s + i) → byte (drop p im) i ≡ byte (drop s t) i
byte-same im t p s i h = get_or-drop p im i 0 ∙ h ∙ sym (get_or-drop s t i 0)

module _ (t image : List ℕ) (small : Bytes t) (ok : sbft_check t ≡ Accepted) (room : image_size ≤ length image) where
  sbft-ok : verdict_of sbft t ≡ Accepted
  unfolding verdict_of
  sbft-ok = ok

  abbrev sbft_left : List ℕ
  sbft_left = (left sbft t image small sbft-ok room).image

  fields : (n : ℕ) → Held t (field_of sbft n)
  fields = held sbft t sbft-ok

  start-same : start_fields sbft_left ≡ start_fields t
  unfolding start_fields place_of place_written field_of fields_of field_count start_in is_oem
  start-same =
      let oem = oem-same sbft t image small sbft-ok room in
      let id : bytes_at sbft_left 10 6 ≡ bytes_at t 10 6 = bytes_same sbft_left t 10 10 6 (oem 0 (omega arith) refl) in
      let table : bytes_at sbft_left 16 8 ≡ bytes_at t 16 8 = bytes_same sbft_left t 16 16 8 (oem 1 (omega arith) refl) in
      rw (id, table)

  scsi-same : scsi_in (drop 48 sbft_left) ≡ scsi_in (drop (offset_of t 0) t)
  unfolding scsi_in place_of place_written field_of fields_of field_count start_in is_oem is_told is_there absent part_of
  scsi-same =
      let told = told_same sbft t image small sbft-ok room in
      rw (part_same sbft_left t 48 (offset_of t 0) 0 8 (told 2 (omega arith) refl))

  srp-same : srp_in (drop 56 sbft_left) ≡ srp_in (drop (offset_of t 1) t)
  unfolding srp_in place_of place_written field_of fields_of field_count start_in is_oem is_told is_there absent part_of
  srp-same =
      let told = told_same sbft t image small sbft-ok room in
      rw (
        part_same sbft_left t 56 (offset_of t 1) 0 16 (told 3 (omega arith) refl),
        part_same sbft_left t 56 (offset_of t 1) 16 16 (told 4 (omega arith) refl),
      )

  -- the IB part, where it is there
  module _ (there : absent t 2 ≡ false) where
    ib-same : ib_in (drop 88 sbft_left) ≡ ib_in (drop (offset_of t 2) t)
    unfolding ib_in place_of place_written field_of fields_of field_count start_in is_oem is_told is_there part_of
    ib-same =
        let told = told_same sbft t image small sbft-ok room in
        let is : not (absent t 2) ≡ true = ap not there in
        let low : byte (drop 88 sbft_left) 40 ≡ byte (drop (offset_of t 2) t) 40 =
        byte-same sbft_left t 88 (offset_of t 2) 40 (told 8 (omega arith) is 0 (omega arith) ∙ ap (byte t) (omega arith)) in
        let high : byte (drop 88 sbft_left) 41 ≡ byte (drop (offset_of t 2) t) 41 =
        byte-same sbft_left t 88 (offset_of t 2) 41 (told 8 (omega arith) is 1 (omega arith) ∙ ap (byte t) (omega arith)) in
        rw (
          part_same sbft_left t 88 (offset_of t 2) 0 16 (told 5 (omega arith) is),
          part_same sbft_left t 88 (offset_of t 2) 16 16 (told 6 (omega arith) is),
          part_same sbft_left t 88 (offset_of t 2) 32 8 (told 7 (omega arith) is),
          low,
          high,
        )

    ib-present : absent sbft_left 2 ≡ false
    unfolding absent offset_of part_of field_of fields_of field_count is_oem is_told is_there
    ib-present =
        let is : not (absent t 2) ≡ true = ap not there in
        let set = offset-set t small fields (blank_draft image) 0 9 5 in
        let long = blank-long sbft t image small sbft-ok room in
        let low : byte sbft_left 40 ≡ 88 = set 0 (omega arith) (omega arith) (omega arith) is refl (omega arith) (omega (arith, long)) in
        let high : byte sbft_left 41 ≡ 0 = set 1 (omega arith) (omega arith) (omega arith) is refl (omega arith) (omega (arith, long)) in
        rw (low, high)

  -- .. where it is not
  ib-gone : absent t 2 ≡ true → absent sbft_left 2 ≡ true
  unfolding absent offset_of part_of field_count fields_of
  ib-gone gone =
      let blank = blank-byte sbft t image small sbft-ok room in
      let low : byte sbft_left 40 ≡ 0 = offset-none t small fields (blank_draft image) gone 0 (omega arith) ∙ blank 40 (omega arith) in
      let high : byte sbft_left 41 ≡ 0 = offset-none t small fields (blank_draft image) gone 1 (omega arith) ∙ blank 41 (omega arith) in
      rw (low, high)

  ib-option : cond (absent sbft_left 2) None (Some (ib_in (drop 88 sbft_left))) ≡ cond (absent t 2) None (Some (ib_in (drop (offset_of t 2) t)))
  ib-option = go (absent t 2) refl
    where
      go : (b : Bool) → absent t 2 ≡ b → cond (absent sbft_left 2) None (Some (ib_in (drop 88 sbft_left)))
          ≡ cond (absent t 2) None (Some (ib_in (drop (offset_of t 2) t)))
      go true gone = rw (ib-gone gone, gone)
      go false there = rw (ib-present there, there) (ap Some (ib-same there))

  sbft-record : record_given sbft_left ≡ sbft_record t
  unfolding record_given sbft_record record_at sbft_place part_of
  sbft-record = rw (start-same, scsi-same, srp-same, ib-option)

  sbft-third : is_told t (field_of sbft 2) ≡ true
  unfolding field_of fields_of is_oem is_told is_there absent part_of
  sbft-third = refl

  sbft-family : text_family (table_text sbft t) ≡ sbft
  unfolding own_family field_count fields_of
  sbft-family = text-family sbft t image small sbft-ok room sbft-third (omega arith)

  pub enters-sbft : (o : Outcome) → o ≡ entered_from sbft (table_text sbft t) image
      → ToldAndEntered sbft (table_text sbft t) o (record_given o.draft.image) (sbft_record t)
  unfolding own_family
  enters-sbft o is =
      let e = is ∙ told-entered sbft t image small sbft-ok room in
      record {
        of-family = sbft-family;
        none-stray = text-own sbft t image small sbft-ok room sbft-family;
        read = ap (λ (o : Outcome). o.reason) e;
        same = ap (λ (o : Outcome). record_given o.draft.image) e ∙ sbft-record;
      }

-- ---- both

pub enters-what-is-told : EntersWhatIsTold
enters-what-is-told =
    record {
      of-abft = λ t image small ok room. enters-abft t image small ok room _ refl;
      of-sbft = λ t image small ok room. enters-sbft t image small ok room _ refl;
    }
