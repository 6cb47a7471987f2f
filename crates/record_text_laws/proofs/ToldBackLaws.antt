-- What a table tells of a field reads back: the field has as many bytes as its layout says, and such as have a text, since the
-- check lets no others through.
--     kind-facts      what the layout's kinds say of the groups of their structures
--     slot-kind, low-kind, group-known        the kind of a group
--     fields-few      it has from one to sixteen fields
--     text-last, text-from, text-entry        its strings are its last fields, a structure's, and entries
--     held-present, flags-told, flags-some     a structure that is present, and tells its flags
--     entry-short     an entry has at most 255 bytes
--     told-held       a structure that tells a field is present
--     told-said       the bytes of a field that is no string have a text
--     told-small      and are bytes
--     told-value      and that text, read, is the bytes that the table has
--     told-string     so it is of a string
--     told-entry      which is one of the entries
-- Assumes nothing.
use Rattle.std.specs.Prelude.{Option, None, Some, option_map}
use mathlib.Core.Path.{◌≡◌, refl, sym, ap, ◌∙◌}
use mathlib.Core.List.{List, [], ◌∷◌}
use mathlib.Core.Bool.{Bool, true, false, not, ◌&&◌, ◌||◌}
use Prim.Native.Nat.{ℕ, zero, suc, ◌+◌, ◌*◌, ◌-◌, ◌^◌, ◌/◌, ◌≤◌, ◌<◌}
use native.Mathlib.Nat.{div-add-mod', mod-lt}
use native.Mathlib.Decide.{dec_lt}
use native.Mathlib.Omega.{arith}
use borrow.Author.Tests.{eqb-true, ltb-true, leb-true, lt-ltb, le-ltb, lt-leb, le-leb, ne_eqb, not-true}
use lib.Bits.{bit_and, and_high}
use lib.Pow.{shr_mod, pow_pos}
use lib.ListN.{length, drop, get_or}
use lib.Seq.{get_or-drop, drop-cons}
use lib.Dec.{eqb, leb, ltb}
use Rattle.octets.specs.Counting.{first, any}
use Rattle.octets.specs.Octets.{byte, part}
use Rattle.octets.proofs.CountingLaws.{clash, any_none, each_holds}
use Rattle.octets.proofs.ReadLaws.{part_length, part_at, part-within}
use Rattle.octets.proofs.TestLaws.{and_both}
use Rattle.text.specs.Split.{each}
use Rattle.text.specs.Words.{word_count, good_list}
use Rattle.text.specs.Computing.{computing}
use Rattle.notation.specs.Escape.{string_of, string_text}
use Rattle.notation.proofs.EscapeLaws.{string-back}
use Rattle.ibft_layout.specs.Layout.{Kind, Field, initiator, kinds, slot_count, kind_of, chap_at, flags_at, entry_count, first_entry, least_length}
use Rattle.ibft_table.specs.Table.{start_of, present, end_in, offset_of, size_of, holds_entry}
use Rattle.table_header.specs.Header.{padded}
use Rattle.ibft_table.specs.Check.{check_of}
use Rattle.ibft_table.specs.Record.{Record, record_of, listed, content_in, content_of, body_size, shown_if}
use Rattle.table_header.specs.Verdict.{Accepted}
use Rattle.ibft_table_laws.specs.Facts.{SlotFacts}
use Rattle.ibft_table_laws.proofs.AcceptedLaws.{accepted-facts}
use Rattle.ibft_table_laws.proofs.LayoutLaws.{slot-fits, entry-fits, slot-entry, slot-entry-owner}
use Rattle.ibft_table_laws.proofs.RecordLaws.{structure-listed, entry_listed, table-entry-some}
use Rattle.ibft_table_laws.proofs.TableLaws.{slot_kept, entry-owner-on, entry_kept, entry_length}
use Rattle.ibft_build_rules.specs.Plan.{is_present}
use Rattle.record_text.specs.Fields.{first_structure, kind_count, group_of, is_text, is_always, notation_in, place_in, field_of, field_count, plain_count}
use Rattle.record_text.specs.Value.{chap_types, modes, value_text, field_text, field_bytes}
use Rattle.record_text.specs.Enter.{group_count}
use Rattle.record_text.specs.Tell.{slot_in, kind_number, within, structure_field, record_field, is_told}
use Rattle.record_text.specs.Promises.{Bytes}
use Rattle.record_text.specs.declared.fields.Notation.{Notation}
use Rattle.record_text.specs.declared.fields.Notation.TheVariants.{Oem, Mode, Flags, Number, Port, Address, Mac, Pci, Chap, Text}
use Rattle.record_text_laws.proofs.Entered.{Held}
use Rattle.record_text.proofs.ValueLaws.{each_at, each_field, group_passes, group-field, every-field, slot-field}
use Rattle.record_text_laws.proofs.ValueBackLaws.{Said, take-small, field_back}

-- ---- bytes of a table, and what is shown of it

part_small : (t : List ℕ) (start size : ℕ) → Bytes t → Bytes (part t start size)
unfolding part
part_small t start size h = take-small (drop start t) size (λ i. omega (arith, get_or-drop start t i 0, h (start + i)))

same_bytes : (a b : List ℕ) → Some a ≡ Some b → a ≡ b
same_bytes a b e = cc

mapped-shown : (f : List ℕ → List ℕ) (b : Bool) (x bytes : List ℕ) → option_map f (shown_if b x) ≡ Some bytes → (b ≡ true) × (f x ≡ bytes)
mapped-shown f true x bytes e = (refl, same_bytes (f x) bytes e)
mapped-shown f false x bytes e = absurd (let z : ◌≡◌ {A = ℕ} 0 1 = cc in omega arith)

-- ---- kinds

kind_good : Kind → Bool
kind_good kind =
    leb first_structure kind.id
    && (ltb kind.id kind_count
    && (good_list (group_of kind.id).flags
    && (leb (word_count (group_of kind.id).flags) 8
    && (eqb kind.reserved (2 ^ 8 - 2 ^ word_count (group_of kind.id).flags)
    && (eqb (plain_count kind.id + length kind.string_fields) (field_count kind.id)
    && (is_always (field_of kind.id 0).notation && not (is_text (field_of kind.id 0).notation)))))))

pub record KindFacts (kind : Kind) : Type 0 where
  pub low : first_structure ≤ kind.id
  pub high : kind.id < kind_count
  pub flags : good_list (group_of kind.id).flags ≡ true
  pub few : word_count (group_of kind.id).flags ≤ 8
  pub reserved : kind.reserved ≡ 2 ^ 8 - 2 ^ word_count (group_of kind.id).flags
  pub strings : plain_count kind.id + length kind.string_fields ≡ field_count kind.id
  pub always : is_always (field_of kind.id 0).notation ≡ true
  pub plain : is_text (field_of kind.id 0).notation ≡ false

kinds-good : each kind_good kinds ≡ true
unfolding computing each kind_good group_of plain_count field_count field_of notation_in is_always is_text
kinds-good = refl

good-facts : (kind : Kind) → kind_good kind ≡ true → KindFacts kind
unfolding kind_good
good-facts kind e =
    let a = and_both (leb first_structure kind.id) _ e in
    let b = and_both (ltb kind.id kind_count) _ a.1 in
    let c = and_both (good_list (group_of kind.id).flags) _ b.1 in
    let d = and_both (leb (word_count (group_of kind.id).flags) 8) _ c.1 in
    let r = and_both (eqb kind.reserved (2 ^ 8 - 2 ^ word_count (group_of kind.id).flags)) _ d.1 in
    let s = and_both (eqb (plain_count kind.id + length kind.string_fields) (field_count kind.id)) _ r.1 in
    let f = and_both (is_always (field_of kind.id 0).notation) _ s.1 in
    record {
      low = leb-true first_structure kind.id a.0;
      high = ltb-true kind.id kind_count b.0;
      flags = c.0;
      few = leb-true _ 8 d.0;
      reserved = eqb-true kind.reserved _ r.0;
      strings = eqb-true _ (field_count kind.id) s.0;
      always = f.0;
      plain = not-true _ f.1;
    }

pub kind-facts : (k : ℕ) → KindFacts (kind_of k)
unfolding kind_of each
kind-facts k = good-facts (kind_of k) (each_at kind_good kinds k initiator kinds-good (and_both (kind_good initiator) _ kinds-good).0)

pub slot-kind : (g : ℕ) → first_structure ≤ g → kind_number g ≡ (kind_of (slot_in g)).id
unfolding kind_number
slot-kind g h = rw (le-ltb g first_structure h)

pub low-kind : (g : ℕ) → g < first_structure → kind_number g ≡ g
unfolding kind_number
low-kind g h = rw (lt-ltb g first_structure h)

pub group-known : (g : ℕ) → kind_number g < kind_count
group-known g =
    elim (dec_lt g first_structure) [
      | yes h ↦ omega (arith, low-kind g h)
      | no h ↦ rw (slot-kind g (omega arith)) (kind-facts (slot_in g)).high
    ]

-- a group has at most sixteen fields, and one at least
few_fields : ℕ → Bool
few_fields kind = leb 1 (field_count kind) && leb (field_count kind) 16

pub fields-few : (kind : ℕ) → kind < kind_count → (1 ≤ field_count kind) × (field_count kind ≤ 16)
unfolding any first field_count group_of few_fields
fields-few kind h =
    let both = and_both (leb 1 (field_count kind)) _ (each_holds kind_count few_fields refl kind h) in
    (leb-true 1 (field_count kind) both.0, leb-true (field_count kind) 16 both.1)

-- ---- strings: they are a structure's, and its last fields

text_last : ℕ → Bool
text_last kind =
    not (any (plain_count kind) (λ (n : ℕ). is_text (field_of kind n).notation))
    && not (any (field_count kind - plain_count kind) (λ (i : ℕ). not (is_text (field_of kind (plain_count kind + i)).notation)))

pub text-last : (kind n : ℕ) → kind < kind_count → n < field_count kind → is_text (field_of kind n).notation ≡ leb (plain_count kind) n
unfolding any first text_last group_of plain_count field_count field_of notation_in is_text
text-last kind n h l =
    let both = and_both (not (any (plain_count kind) (λ (n : ℕ). is_text (field_of kind n).notation))) _ (each_holds kind_count text_last refl kind h) in
    elim (dec_lt n (plain_count kind)) [
      | yes low ↦
          any_none (plain_count kind) (λ (n : ℕ). is_text (field_of kind n).notation) (not-true _ both.0) n low
          ∙ sym (lt-leb (plain_count kind) n low)
      | no low ↦
          let place : plain_count kind + (n - plain_count kind) ≡ n = omega arith in
          let strings = each_holds (field_count kind - plain_count kind)
          (λ (i : ℕ). is_text (field_of kind (plain_count kind + i)).notation) (not-true _ both.1) in
          rw place at (strings (n - plain_count kind) (omega arith)) ∙ sym (le-leb (plain_count kind) n (omega arith))
    ]

bare : Notation → Field → Bool
bare notation place = not (is_text notation)

low-plain : (kind n : ℕ) → kind < first_structure → is_text (field_of kind n).notation ≡ false
unfolding each_field group_passes bare is_text group_of field_of
low-plain zero n h = not-true _ (group-field bare (group_of 0) n refl)
low-plain (suc zero) n h = not-true _ (group-field bare (group_of 1) n refl)
low-plain (suc (suc kind)) n h = absurd (omega arith)

pub text-from : (g n : ℕ) → is_text (field_of (kind_number g) n).notation ≡ true → first_structure ≤ g
text-from g n text =
    elim (dec_lt g first_structure) [
      | yes h ↦ clash text (low-plain (kind_number g) n (rw (low-kind g h) h))
      | no h ↦ omega arith
    ]

-- a structure's field in a record, and the entry that a string is
structure-field : (r : Record) (g n : ℕ) → first_structure ≤ g → record_field r g n ≡ structure_field r (slot_in g) (kind_number g) n
unfolding record_field
structure-field r g n h = rw (ne_eqb g 0 (omega arith), ne_eqb g 1 (omega arith))

pub text-entry : (r : Record) (g n : ℕ) → is_text (field_of (kind_number g) n).notation ≡ true
    → record_field r g n ≡ get_or r.entries (first_entry (slot_in g) + (n - plain_count (kind_number g))) None
unfolding structure_field
text-entry r g n text = structure-field r g n (text-from g n text) ∙ rw text

-- how many bytes a string has, none where it is missing; no entry of an accepted table has more than 255
unfoldable pub length_held : Option (List ℕ) → ℕ
length_held None = 0
length_held (Some bytes) = length bytes

pub entry-short : (t : List ℕ) → check_of t ≡ Accepted → (e : ℕ) → e < entry_count → length_held (get_or (record_of t).entries e None) ≤ 255
unfolding length_held record_of
entry-short t ok e h = go (get_or (record_of t).entries e None) refl
  where
    go : (o : Option (List ℕ)) → get_or (record_of t).entries e None ≡ o → length_held o ≤ 255
    go None held = omega arith
    go (Some bytes) held =
        let is = table-entry-some t e bytes (sym (entry_listed (content_of t) e h) ∙ held) in
        let kept = entry_kept t ok e h is.0 in
        omega (arith, ap length is.1, entry_length t ok e h is.0, kept.longest, (entry-fits e h).longest)

-- ---- what is present

pub held-present : (t : List ℕ) (k : ℕ) → k < slot_count → is_present (get_or (record_of t).structures k None) ≡ present t k
unfolding record_of content_of content_in is_present
held-present t k h = ap is_present (structure-listed (content_of t) k h) ∙ go (present t k) (part t (start_of t k + flags_at) (body_size (kind_of k)))
  where
    go : (b : Bool) (x : List ℕ) → is_present (shown_if b x) ≡ b
    go true x = refl
    go false x = refl

-- a structure that is present tells its flags, its first field
pub flags-told : (g : ℕ) → first_structure ≤ g → (bytes : List ℕ) → is_told (kind_number g) 0 bytes ≡ true
unfolding is_told
flags-told g h bytes = rw (slot-kind g h, (kind-facts (slot_in g)).plain, (kind-facts (slot_in g)).always)

pub flags-some : (r : Record) (g : ℕ) → first_structure ≤ g → Held r g → record_field r g 0 ≡ None → ⊥
unfolding structure_field is_present
flags-some r g h held e =
    let plain : is_text (field_of (kind_number g) 0).notation ≡ false = rw (slot-kind g h) (kind-facts (slot_in g)).plain in
    go (get_or r.structures (slot_in g) None) held (rw plain at (sym (structure-field r g 0 h) ∙ e))
  where
    go : (o : Option (List ℕ)) → is_present o ≡ true → option_map (within (field_of (kind_number g) 0)) o ≡ None → ⊥
    go None on e = clash on refl
    go (Some bytes) on e = let z : ◌≡◌ {A = ℕ} 0 1 = cc in omega arith

-- ---- what the check settles of flags and CHAP types

-- a number of which no bit from k on is set
mask_low : (b j k : ℕ) → b < 2 ^ (j + k) → bit_and b (2 ^ (j + k) - 2 ^ k) ≡ 0 → b < 2 ^ k
mask_low b j k small e =
    let high : b / 2 ^ k * 2 ^ k ≡ 0 = sym (and_high b j k ∙ ap (λ (n : ℕ). n * 2 ^ k) (shr_mod j k small)) ∙ e in
    omega (arith, high, div-add-mod' b (2 ^ k), mod-lt b (pow_pos k))

-- flags without reserved bits are below the number that the names of all have together
flags-low : (kind : Kind) → KindFacts kind → (b : ℕ) → b < 256 → bit_and b kind.reserved ≡ 0 → b < 2 ^ word_count (group_of kind.id).flags
flags-low kind f b small e =
    let k = word_count (group_of kind.id).flags in
    let whole : (8 - k) + k ≡ 8 = omega (arith, f.few) in
    mask_low b (8 - k) k (rw whole small) (rw whole (sym (ap (bit_and b) f.reserved) ∙ e))

-- where a structure's fields stand that are no strings, and which notations they have: flags stand at 5, a CHAP type where its
-- kind has one
suits_at : Bool → ℕ → Notation → Bool
suits_at chap at Oem = false
suits_at chap at Mode = false
suits_at chap at Flags = eqb at flags_at
suits_at chap at Number = true
suits_at chap at Port = true
suits_at chap at Address = true
suits_at chap at Mac = true
suits_at chap at Pci = true
suits_at chap at Chap = chap && eqb at chap_at
suits_at chap at Text = true

suits : Kind → Notation → Field → Bool
suits kind notation place =
    is_text notation || (leb flags_at place.at && (leb (place.at + place.width) kind.strings_at && suits_at kind.chap place.at notation))

record PlainFacts (kind : Kind) (at width : ℕ) (notation : Notation) : Type 0 where
  low : flags_at ≤ at
  high : at + width ≤ kind.strings_at
  suited : suits_at kind.chap at notation ≡ true

plain-facts : (k n : ℕ) → let f = field_of (kind_of k).id n in is_text f.notation ≡ false → PlainFacts (kind_of k) f.at f.width f.notation
unfolding field_of each each_field group_passes suits suits_at is_text group_of
plain-facts k n plain =
    let notation = notation_in (group_of (kind_of k).id) n in
    let place = place_in (group_of (kind_of k).id) n in
    let all : (is_text notation || (leb flags_at place.at &&
    (leb (place.at + place.width) (kind_of k).strings_at && suits_at (kind_of k).chap place.at notation))) ≡ true
    = slot-field suits refl k n in
    let a = and_both (leb flags_at place.at) _ (rw plain at all) in
    let b = and_both (leb (place.at + place.width) (kind_of k).strings_at) _ a.1 in
    record { low = leb-true flags_at place.at a.0; high = leb-true (place.at + place.width) _ b.0; suited = b.1 }

chap-low : (b : ℕ) → b ≤ 2 → b < word_count chap_types
unfolding computing
chap-low b h = omega arith

mode-low : (b : ℕ) → b < 256 → bit_and b 0xFE ≡ 0 → b < word_count modes
unfolding computing
mode-low b small e = mask_low b 7 1 small e

-- the bytes of a structure's field have a text
said : (flags : List ℕ) (chap : Bool) (at : ℕ) (notation : Notation) (bytes : List ℕ) → suits_at chap at notation ≡ true → is_text notation ≡ false
    → (at ≡ flags_at → (good_list flags ≡ true) × (byte bytes 0 < 2 ^ word_count flags)) → (chap ≡ true → at ≡ chap_at → byte bytes 0 ≤ 2)
    → Said flags notation bytes
unfolding suits_at is_text
said flags chap at Oem bytes s plain of-flags of-chap = clash s refl
said flags chap at Mode bytes s plain of-flags of-chap = clash s refl
said flags chap at Flags bytes s plain of-flags of-chap = of-flags (eqb-true at flags_at s)
said flags chap at Number bytes s plain of-flags of-chap = tt
said flags chap at Port bytes s plain of-flags of-chap = tt
said flags chap at Address bytes s plain of-flags of-chap = tt
said flags chap at Mac bytes s plain of-flags of-chap = tt
said flags chap at Pci bytes s plain of-flags of-chap = tt
said flags chap at Chap bytes s plain of-flags of-chap =
    let both = and_both chap (eqb at chap_at) s in
    chap-low (byte bytes 0) (of-chap both.0 (eqb-true at chap_at both.1))
said flags chap at Text bytes s plain of-flags of-chap = clash refl plain

-- every field has a byte at least
wide : Notation → Field → Bool
wide notation place = leb 1 place.width

width_some : (kind n : ℕ) → 0 < (field_of kind n).width
unfolding each each_field group_passes field_of wide
width_some kind n = leb-true 1 (field_of kind n).width (every-field wide refl refl kind n)

pub text-is : (flags : List ℕ) (notation : Notation) (bytes : List ℕ) → is_text notation ≡ true → value_text flags notation bytes ≡ string_text bytes
unfolding is_text value_text
text-is flags Oem bytes e = clash e refl
text-is flags Mode bytes e = clash e refl
text-is flags Flags bytes e = clash e refl
text-is flags Number bytes e = clash e refl
text-is flags Port bytes e = clash e refl
text-is flags Address bytes e = clash e refl
text-is flags Mac bytes e = clash e refl
text-is flags Pci bytes e = clash e refl
text-is flags Chap bytes e = clash e refl
text-is flags Text bytes e = refl

-- ---- the value of a field, read back

module _ (t : List ℕ) (ok : check_of t ≡ Accepted) (small : Bytes t) (g n : ℕ) (group : g < group_count) (number : n < field_count (kind_number g))
    (bytes : List ℕ) (told : record_field (record_of t) g n ≡ Some bytes) where
  abbrev kind : ℕ
  kind = kind_number g

  -- an accepted table has 66 bytes
  long : least_length ≤ length t
  long = let header = (accepted-facts t ok).header in omega (arith, header.long, header.whole)

  -- the bytes of a field that is no string: that part of the table, and they have a text
  record Stands : Type 0 where
    start : ℕ
    are : bytes ≡ part t start (field_of kind n).width
    lies : start + (field_of kind n).width ≤ length t
    said : Said (group_of kind).flags (field_of kind n).notation bytes

  -- an OEM field
  module _ (here : g ≡ 0) where
    id-bytes : n ≡ 0 → bytes ≡ part t 10 6
    unfolding record_field record_of listed content_of content_in
    id-bytes e = sym (same_bytes (part t 10 6) bytes (rw (here, e) at told))

    table-id-bytes : n ≡ 1 → bytes ≡ part t 16 8
    unfolding record_field record_of listed content_of content_in
    table-id-bytes e = sym (same_bytes (part t 16 8) bytes (rw (here, e) at told))

    oem-stands : Stands
    unfolding kind_number field_of field_count group_of notation_in place_in
    oem-stands =
        let header = (accepted-facts t ok).header in
        elim (dec_lt n 1) [
          | yes h ↦
              let e : n ≡ 0 = omega arith in
              record {
                start = 10;
                are = rw (here, e) (id-bytes e);
                lies = rw (here, e) (omega (arith, long));
                said = rw (here, e) (ap padded (id-bytes e) ∙ header.oem-id);
              }
          | no h ↦
              let below : n < 2 = rw here at number in
              let e : n ≡ 1 = omega arith in
              record {
                start = 16;
                are = rw (here, e) (table-id-bytes e);
                lies = rw (here, e) (omega (arith, long));
                said = rw (here, e) (ap padded (table-id-bytes e) ∙ header.oem-table-id);
              }
        ]

  -- the login mode
  module _ (here : g ≡ 1) where
    mode-bytes : bytes ≡ byte t 53 ∷ []
    unfolding record_field record_of listed content_of content_in
    mode-bytes = sym (same_bytes (byte t 53 ∷ []) bytes (rw here at told))

    mode-stands : Stands
    unfolding kind_number field_of field_count group_of notation_in place_in part
    mode-stands =
        let below : n < 1 = rw here at number in
        let e : n ≡ 0 = omega arith in
        let low : byte bytes 0 < word_count modes = rw mode-bytes (mode-low (byte t 53) (small 53) (accepted-facts t ok).control.reserved) in
        record {
          start = 53;
          are = rw (here, e) (mode-bytes ∙ rw (drop-cons t 53 0 (omega (arith, long))));
          lies = rw (here, e) (omega (arith, long));
          said = rw (here, e) low;
        }

  -- a field of a structure
  module _ (from : first_structure ≤ g) where
    abbrev slot : ℕ
    slot = slot_in g

    abbrev id : ℕ
    id = (kind_of slot).id

    below : slot < slot_count
    below = omega arith

    is : kind ≡ id
    is = slot-kind g from

    shown : structure_field (record_of t) slot kind n ≡ Some bytes
    shown = sym (structure-field (record_of t) g n from) ∙ told

    module _ (plain : is_text (field_of kind n).notation ≡ false) where
      here : (present t slot ≡ true) × (within (field_of kind n) (part t (start_of t slot + flags_at) (body_size (kind_of slot))) ≡ bytes)
      unfolding structure_field record_of content_of content_in
      here =
          mapped-shown (within (field_of kind n)) (present t slot) (part t (start_of t slot + flags_at) (body_size (kind_of slot))) bytes
          (ap (option_map (within (field_of kind n))) (sym (structure-listed (content_of t) slot below)) ∙ (rw plain at shown))

      abbrev facts : SlotFacts t slot
      facts = slot_kept t ok slot below here.0

      laid : PlainFacts (kind_of slot) (field_of kind n).at (field_of kind n).width (field_of kind n).notation
      laid = rw is (plain-facts slot n (rw is at plain))

      bytes-are : bytes ≡ part t (start_of t slot + (field_of kind n).at) (field_of kind n).width
      bytes-are =
          let at = (field_of kind n).at in
          let place : start_of t slot + flags_at + (at - flags_at) ≡ start_of t slot + at = omega (arith, laid.low) in
          sym here.1
          ∙ part-within t (start_of t slot + flags_at) (body_size (kind_of slot)) (at - flags_at) (field_of kind n).width (omega (arith, laid.low, laid.high))
          ∙ ap (λ (i : ℕ). part t i (field_of kind n).width) place

      lies : start_of t slot + (field_of kind n).at + (field_of kind n).width ≤ length t
      unfolding end_in
      lies =
          let fits = slot-fits slot below in
          omega (arith, laid.high, (accepted-facts t ok).header.whole, facts.inside, fits.words)

      first_byte : (at : ℕ) → (field_of kind n).at ≡ at → byte bytes 0 ≡ byte t (start_of t slot + at)
      first_byte at e =
          ap (λ (l : List ℕ). byte l 0) bytes-are
          ∙ part_at t (start_of t slot + (field_of kind n).at) (field_of kind n).width 0 (width_some kind n)
          ∙ ap (byte t) (omega (arith, e))

      structure-stands : Stands
      structure-stands =
          record {
            start = start_of t slot + (field_of kind n).at;
            are = bytes-are;
            lies = lies;
            said =
                said (group_of kind).flags (kind_of slot).chap (field_of kind n).at (field_of kind n).notation bytes laid.suited plain
                (λ e.
                let flags = kind-facts slot in
                rw (is, first_byte flags_at e) (
                  flags.flags,
                  flags-low (kind_of slot) flags (byte t (start_of t slot + flags_at)) (small _) facts.starts.reserved,
                ))
                (λ chap e. rw (first_byte chap_at e) (facts.chap chap));
          }

    module _ (text : is_text (field_of kind n).notation ≡ true) where
      abbrev entry : ℕ
      entry = first_entry slot + (n - plain_count kind)

      -- which string of the structure it is
      string-low : plain_count kind ≤ n
      string-low = leb-true (plain_count kind) n (sym (text-last kind n (group-known g) number) ∙ text)

      string-high : n - plain_count kind < length (kind_of slot).string_fields
      string-high =
          let all : plain_count kind + length (kind_of slot).string_fields ≡ field_count kind = rw is (kind-facts slot).strings in
          omega (arith, string-low, number)

      entry-below : entry < entry_count
      entry-below = slot-entry slot (n - plain_count kind) below string-high

      string-is : (holds_entry t entry ≡ true) × (part t (offset_of t entry) (size_of t entry) ≡ bytes)
      unfolding record_of
      string-is = table-entry-some t entry bytes (sym (entry_listed (content_of t) entry entry-below) ∙ sym (text-entry (record_of t) g n text) ∙ told)

      string-owner : present t slot ≡ true
      string-owner =
          ap (present t) (sym (slot-entry-owner slot (n - plain_count kind) below string-high)) ∙ entry-owner-on t entry string-is.0

      string_bytes : string_of (field_text kind n bytes) ≡ Some bytes
      string_bytes =
          ap string_of (text-is (group_of kind).flags (field_of kind n).notation bytes text)
          ∙ string-back bytes (rw string-is.1 at (part_small t (offset_of t entry) (size_of t entry) small))

  -- a structure that tells a field is present
  pub told-held : first_structure ≤ g → Held (record_of t) g
  unfolding record_of content_of content_in is_present
  told-held from = go (is_text (field_of kind n).notation) refl
    where
      on : present t (slot_in g) ≡ true → Held (record_of t) g
      on e = rw (structure-listed (content_of t) (slot_in g) (below from), e)

      go : (b : Bool) → is_text (field_of kind n).notation ≡ b → Held (record_of t) g
      go true e = on (string-owner from e)
      go false e = on (here from e).0

  stands : is_text (field_of kind n).notation ≡ false → Stands
  stands plain =
      elim (dec_lt g 1) [
        | yes h ↦ oem-stands (omega arith)
        | no h ↦
            elim (dec_lt g first_structure) [
              | yes l ↦ mode-stands (omega arith)
              | no l ↦ structure-stands (omega arith) plain
            ]
      ]

  pub told-said : is_text (field_of kind n).notation ≡ false → Said (group_of kind).flags (field_of kind n).notation bytes
  told-said plain = (stands plain).said

  pub told-small : is_text (field_of kind n).notation ≡ false → Bytes bytes
  told-small plain = let s = stands plain in rw s.are (part_small t s.start (field_of kind n).width small)

  -- the text of a field that is no string, read, is its bytes
  pub told-value : is_text (field_of kind n).notation ≡ false → field_bytes kind n (field_text kind n bytes) ≡ Some bytes
  told-value plain =
      let s = stands plain in
      field_back kind n bytes (ap length s.are ∙ part_length t s.start (field_of kind n).width s.lies)
      (told-small plain) s.said

  -- .. of a string
  pub told-string : is_text (field_of kind n).notation ≡ true → string_of (field_text kind n bytes) ≡ Some bytes
  told-string text = string_bytes (text-from g n text) text

  -- .. and it is one of the entries
  pub told-entry : is_text (field_of kind n).notation ≡ true → first_entry (slot_in g) + (n - plain_count kind) < entry_count
  told-entry text = entry-below (text-from g n text) text
