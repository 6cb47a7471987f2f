-- Laws of values read: the bytes that the definition gives are as many as the field has.
--     field_fits, number-few, oem-width, pairs-fit     every field has a width that its notation can have
--     number-same                                      a number's bytes, as `notation` has them
--     number_read, number-unread                       the bytes of a number that is read, or not
--     address-read                                     an address
--     value-width, field-width                         the bytes of a value are as many as its field has
-- Assumes nothing.
use Rattle.std.proofs.Common.{◌≡◌, ℕ, ◌-◌, ◌^◌, ◌≤◌, List, Bool, true, length, take, leb, refl, sym, ap, ◌∙◌, arith, ne_eqb}
use Rattle.std.specs.Prelude.{Option, None, Some, option_map}
use native.Mathlib.Decide.{dec_le, ℕ_discrete}
use borrow.Author.Tests.{leb-true, eqb-true}
use lib.Seq.{length-take-le}
use Rattle.octets.specs.Octets.{le16}
use Rattle.octets.proofs.CountingLaws.{clash}
use Rattle.octets.proofs.TestLaws.{and_both}
use Rattle.text.specs.Split.{each}
use Rattle.notation.specs.Number.{number_up_to}
use Rattle.notation.specs.Escape.{string_of}
use Rattle.notation.specs.Value.{is_width, number_bytes as all_bytes, value_read}
use Rattle.notation.proofs.WidthLaws.{address-width, pairs-width}
use Rattle.notation.proofs.ValueLaws.{sixteen-whole, filled-width, mapped-width}
use Rattle.family_text.specs.Fields.{field_of}
use Rattle.family_text.specs.declared.fields.Notation.{Notation}
use Rattle.family_text.specs.declared.fields.Notation.TheVariants.{Oem, Number as NumberField, Pairs, Address}
use Rattle.family_text.specs.declared.fields.FieldLayout.{FieldLayout}
use Rattle.family_text.specs.Value.{number_bytes, fits, value_bytes, field_bytes}
use Rattle.family_text.proofs.FieldsLaws.{field-each}

-- ---- widths

fit : FieldLayout → Bool
fit f = fits f.notation f.width

pub field_fits : (family n : ℕ) → fits (field_of family n).notation (field_of family n).width ≡ true
unfolding each fit fits
field_fits family n = field-each fit refl refl refl family n

-- a number has one byte or two
pub number-few : (width : ℕ) → fits NumberField width ≡ true → width ≤ 2
unfolding fits
number-few width e =
    elim (dec_le width 2) [
      | yes h ↦ h
      | no h ↦ clash e (rw (ne_eqb width 1 (omega arith), ne_eqb width 2 (omega arith)))
    ]

pub number-two : (width : ℕ) → fits NumberField width ≡ true → (width ≡ 1 → ⊥) → 2 ≡ width
unfolding fits
number-two width e one =
    elim (dec_le width 2) [
      | yes h ↦ elim (dec_le 2 width) [
        | yes g ↦ omega arith
        | no g ↦ clash e (rw (ne_eqb width 1 one, ne_eqb width 2 (omega arith)))
      ]
      | no h ↦ clash e (rw (ne_eqb width 1 one, ne_eqb width 2 (omega arith)))
    ]

pub oem-width : (notation : Notation) (width : ℕ) → notation ≡ Oem → fits notation width ≡ true → width ≤ 16
unfolding fits
oem-width notation width e h = leb-true width 16 (sym (ap (λ (n : Notation). fits n width) e) ∙ h)

pub pairs-fit : (notation : Notation) (width : ℕ) → notation ≡ Pairs → fits notation width ≡ true → width ≤ 16
unfolding fits
pairs-fit notation width e h = leb-true width 16 (and_both (leb 1 width) (leb width 16) (sym (ap (λ (n : Notation). fits n width) e) ∙ h)).1

-- ---- numbers

-- a number of one byte or two has the same bytes among eight
pub number-same : (width : ℕ) (text : List ℕ) → fits NumberField width ≡ true → (is_width width ≡ true) × (all_bytes width text ≡ number_bytes width text)
unfolding is_width all_bytes number_bytes
number-same width text e =
    elim (ℕ_discrete width 1) [
      | yes h ↦ rw h (refl, refl)
      | no h ↦ let two : width ≡ 2 = sym (number-two width e h) in rw two (refl, refl)
    ]

-- what a number that is read says of its bytes
abbrev of_number : ℕ → Option ℕ → Option (List ℕ)
of_number width (Some n) = value_read (Some (take width (le16 n)))
of_number width None = value_read None

of-number : (width : ℕ) (o : Option ℕ) → of_number width o ≡ value_read (option_map (λ (n : ℕ). take width (le16 n)) o)
of-number width None = refl
of-number width (Some n) = refl

-- the bytes of a number that was read, and none where none was
pub number_read : (width n : ℕ) (text : List ℕ) → Some n ≡ number_up_to (256 ^ width - 1) text
    → value_read (Some (take width (le16 n))) ≡ value_read (number_bytes width text)
unfolding number_bytes
number_read width n text e = ap (of_number width) e ∙ of-number width (number_up_to (256 ^ width - 1) text)

pub number-unread : (width : ℕ) (text : List ℕ) → None ≡ number_up_to (256 ^ width - 1) text → value_read None ≡ value_read (number_bytes width text)
unfolding number_bytes
number-unread width text e = ap (of_number width) e ∙ of-number width (number_up_to (256 ^ width - 1) text)

-- ---- addresses

-- what is read of an address is its 16 bytes
pub address-read : (o a : Option (List ℕ)) → a ≡ o → ((b : List ℕ) → o ≡ Some b → length b ≡ 16) → a ≡ value_read o
address-read o a e size = e ∙ sixteen-whole o size

-- ---- the bytes of a value are as many as its field has

number-width : (width : ℕ) (text b : List ℕ) → width ≤ 2 → number_bytes width text ≡ Some b → length b ≡ width
unfolding number_bytes
number-width width text b h e =
    mapped-width (λ (n : ℕ). take width (le16 n)) width (λ n. length-take-le width (le16 n) h) (number_up_to (256 ^ width - 1) text) b e

pub value-width : (notation : Notation) (width : ℕ) (text b : List ℕ) → fits notation width ≡ true → value_bytes notation width text ≡ Some b → length b ≡ width
unfolding fits value_bytes
value-width Oem width text b s e = filled-width width (string_of text) b e
value-width NumberField width text b s e = number-width width text b (number-few width s) e
value-width Pairs width text b s e = pairs-width width text b e
value-width Address width text b s e = address-width text b e ∙ sym (eqb-true width 16 s)

pub field-width : (family n : ℕ) (text b : List ℕ) → field_bytes family n text ≡ Some b → length b ≡ (field_of family n).width
field-width family n text b e = value-width (field_of family n).notation (field_of family n).width text b (field_fits family n) e
