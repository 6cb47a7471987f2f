-- The bytes of a value are as many as its field has: each notation has values of one size, and every field has that width.
--     value-width     the bytes of a value of a notation
--     field-width     .. of a field
-- Assumes nothing.
use Rattle.std.specs.Prelude.{Some}
use mathlib.Core.Path.{◌≡◌, refl, sym, ap, ◌∙◌}
use mathlib.Core.List.{List, [], ◌∷◌}
use mathlib.Core.Bool.{true}
use Prim.Native.Nat.{ℕ, ◌≤◌}
use native.Mathlib.Decide.{dec_le}
use native.Mathlib.Omega.{arith}
use borrow.Author.Tests.{eqb-true, ne_eqb}
use lib.ListN.{length}
use lib.Dec.{ltb}
use Rattle.octets.specs.Octets.{le16}
use Rattle.octets.proofs.CountingLaws.{clash}
use Rattle.text.specs.Words.{word_number, word_count, read_word_set}
use Rattle.notation.specs.Escape.{string_of}
use Rattle.notation.specs.Pci.{read_pci}
use Rattle.notation.specs.Value.{is_width}
use Rattle.notation.proofs.WidthLaws.{no_value, tested, address-width, mac-width}
use Rattle.notation.proofs.ValueLaws.{filled-width, mapped-width, number-width}
use Rattle.record_text.specs.Fields.{group_of, field_of}
use Rattle.record_text.specs.Value.{word_byte, fits, value_bytes, field_bytes}
use Rattle.record_text.specs.declared.fields.Notation.{Notation}
use Rattle.record_text.specs.declared.fields.Notation.TheVariants.{Oem, Mode, Flags, Number, Port, Address, Mac, Pci, Chap, Text}
use Rattle.record_text.proofs.ValueLaws.{port-number, field_fits}

-- ---- the bytes of each notation

word_width : (list text b : List ℕ) → word_byte list text ≡ Some b → length b ≡ 1
unfolding word_byte
word_width list text b e =
    ap length (sym (tested (ltb (word_number list text) (word_count list)) (word_number list text ∷ []) b e).1)

-- a number has at most eight bytes
number_fits : (width : ℕ) → fits Number width ≡ true → width ≤ 8
unfolding fits is_width
number_fits width e =
    elim (dec_le width 8) [
      | yes h ↦ h
      | no h ↦ clash e (rw (ne_eqb width 1 (omega arith), ne_eqb width 2 (omega arith), ne_eqb width 8 (omega arith)))
    ]

-- ---- the bytes of a field

value-width : (flags : List ℕ) (notation : Notation) (width : ℕ) (text b : List ℕ) → fits notation width ≡ true
    → value_bytes flags notation width text ≡ Some b → length b ≡ width
unfolding fits value_bytes
value-width flags Oem width text b s e = filled-width width (string_of text) b e
value-width flags Mode width text b s e = word_width _ text b e ∙ sym (eqb-true width 1 s)
value-width flags Flags width text b s e = mapped-width (λ (v : ℕ). v ∷ []) 1 (λ v. refl) (read_word_set flags text) b e ∙ sym (eqb-true width 1 s)
value-width flags Number width text b s e = number-width width text b s e
value-width flags Port width text b s e = number-width width text b (port-number Port width refl s) e
value-width flags Address width text b s e = address-width text b e ∙ sym (eqb-true width 16 s)
value-width flags Mac width text b s e = mac-width text b e ∙ sym (eqb-true width 6 s)
value-width flags Pci width text b s e = mapped-width le16 2 (λ k. refl) (read_pci text) b e ∙ sym (eqb-true width 2 s)
value-width flags Chap width text b s e = word_width _ text b e ∙ sym (eqb-true width 1 s)
value-width flags Text width text b s e = no_value e

pub field-width : (kind n : ℕ) (text b : List ℕ) → field_bytes kind n text ≡ Some b → length b ≡ (field_of kind n).width
field-width kind n text b e =
    value-width (group_of kind).flags (field_of kind n).notation (field_of kind n).width text b (field_fits kind n) e
