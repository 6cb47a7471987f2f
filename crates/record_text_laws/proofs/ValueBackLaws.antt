-- Reading back: the text of a value, read, is the bytes that it was put from, for every notation but a string's, whose law is
-- `string-back` of `notation`. Each notation has its own law of reading back; what is left is that bytes and the numbers of
-- them go over into each other.
--     Said            what the bytes of a value are: those that an accepted table has
--     value-back      the text of a value, read, is its bytes
--     field_back      .. of a field
-- Assumes nothing.
use Rattle.std.specs.Prelude.{Some, option_map}
use mathlib.Core.Path.{◌≡◌, refl, sym, ap, ◌∙◌}
use mathlib.Core.List.{List, [], ◌∷◌, ◌++◌}
use mathlib.Core.Bool.{Bool, true, false, cond}
use Prim.Native.Nat.{ℕ, zero, suc, ◌-◌, ◌^◌, ◌≤◌, ◌<◌}
use native.Mathlib.Nat.{zero-add}
use native.Mathlib.Omega.{arith}
use borrow.Author.Tests.{lt-ltb, le-leb, eqb-true}
use lib.ListN.{length, take}
use lib.Dec.{eqb}
use Rattle.octets.specs.Octets.{byte, word16, word64, bytes_past, bytes_at, le16, le64, zeros, all_zero}
use Rattle.octets.proofs.ReadLaws.{bytes-elements, byte_past}
use Rattle.octets.proofs.TestLaws.{and_both}
use Rattle.octets.proofs.WordLaws.{two, le16-word, le64-word}
use Rattle.text.specs.Split.{before, index_of}
use Rattle.text.specs.Words.{words_of, word_at, word_count, read_word_set, word_set_text, distinct, good_list}
use Rattle.text.specs.Computing.{computing}
use Rattle.text.proofs.WordSetLaws.{number_at, set_back}
use Rattle.notation.specs.Number.{digits}
use Rattle.notation.proofs.NumberLaws.{number_up_to-digits}
use Rattle.notation.specs.Address.{read_address, address_text}
use Rattle.notation.proofs.AddressLaws.{address-back}
use Rattle.notation.proofs.PairsLaws.{mac-back}
use Rattle.notation.specs.Pci.{read_pci, pci_text}
use Rattle.notation.proofs.PciLaws.{pci-back}
use Rattle.notation.specs.Escape.{string_of}
use Rattle.notation.proofs.EscapeLaws.{string-back}
use Rattle.table_header.specs.Header.{padded}
use Rattle.record_text.specs.Fields.{group_of, field_of}
use Rattle.notation.specs.Value.{filled, is_width, number_bytes}
use Rattle.notation.proofs.ValueLaws.{width-cases}
use Rattle.record_text.specs.Value.{modes, chap_types, word_byte, set_byte, value_bytes, fits, field_bytes, oem_text, value_text, field_text}
use Rattle.record_text.specs.Promises.{Bytes}
use Rattle.record_text.specs.declared.fields.Notation.{Notation}
use Rattle.record_text.specs.declared.fields.Notation.TheVariants.{Oem, Mode, Flags, Number, Port, Address, Mac, Pci, Chap, Text}
use Rattle.record_text.proofs.ValueLaws.{field_fits}

-- ---- bytes

listed : (bytes : List ℕ) (n : ℕ) → length bytes ≡ n → bytes ≡ bytes_at bytes 0 n
listed bytes n e = bytes-elements bytes bytes 0 n e (λ j h. ap (byte bytes) (sym (zero-add j)))

one : (bytes : List ℕ) → length bytes ≡ 1 → Some (byte bytes 0 ∷ []) ≡ Some bytes
unfolding bytes_past
one bytes e = ap Some (sym (listed bytes 1 e))

-- ---- words

word_back : (list bytes : List ℕ) → distinct (words_of list) ≡ true → byte bytes 0 < word_count list → length bytes ≡ 1
    → word_byte list (word_at list (byte bytes 0)) ≡ Some bytes
unfolding word_byte
word_back list bytes other h e =
    rw (number_at list (byte bytes 0) other h, lt-ltb (byte bytes 0) (word_count list) h) (one bytes e)

modes-distinct : distinct (words_of modes) ≡ true
unfolding computing
modes-distinct = refl

types-distinct : distinct (words_of chap_types) ≡ true
unfolding computing
types-distinct = refl

flags-back : (flags bytes : List ℕ) → good_list flags ≡ true → byte bytes 0 < 2 ^ word_count flags → length bytes ≡ 1
    → set_byte (read_word_set flags (word_set_text flags (byte bytes 0))) ≡ Some bytes
flags-back flags bytes good h e = ap set_byte (set_back flags (byte bytes 0) good h) ∙ one bytes e

-- ---- numbers

module _ (bytes : List ℕ) (small : Bytes bytes) where
  -- a number of so many bytes
  abbrev Back : ℕ → Type 0
  Back width = length bytes ≡ width → number_bytes width (digits 10 (word64 bytes 0)) ≡ Some bytes

  back-with : (width : ℕ) → word64 bytes 0 ≤ 256 ^ width - 1 → take width (le64 (word64 bytes 0)) ≡ bytes
      → number_bytes width (digits 10 (word64 bytes 0)) ≡ Some bytes
  unfolding number_bytes
  back-with width h e =
      ap (option_map (λ (n : ℕ). take width (le64 n))) (number_up_to-digits (256 ^ width - 1) (word64 bytes 0) h) ∙ ap Some e

  front : (width : ℕ) → take width (le64 (word64 bytes 0))
      ≡ take width ((two bytes small 0 ++ two bytes small 2) ++ (two bytes small 4 ++ two bytes small 6))
  front width = ap (take width) (le64-word bytes small 0)

  past : (i : ℕ) → length bytes ≤ i → byte bytes i ≡ 0
  past i h = sym (byte_past bytes i h)

  back_one : Back 1
  unfolding two bytes_past
  back_one e =
      let low : word64 bytes 0 ≤ 256 ^ 1 - 1 =
      omega (
        arith,
        small 0,
        past 1 (omega arith),
        past 2 (omega arith),
        past 3 (omega arith),
        past 4 (omega arith),
        past 5 (omega arith),
        past 6 (omega arith),
        past 7 (omega arith),
      ) in
      back-with 1 low (front 1 ∙ sym (listed bytes 1 e))

  back-two : Back 2
  unfolding two bytes_past
  back-two e =
      let low : word64 bytes 0 ≤ 256 ^ 2 - 1 =
      omega (
        arith,
        small 0,
        small 1,
        past 2 (omega arith),
        past 3 (omega arith),
        past 4 (omega arith),
        past 5 (omega arith),
        past 6 (omega arith),
        past 7 (omega arith),
      ) in
      back-with 2 low (front 2 ∙ sym (listed bytes 2 e))

  back-eight : Back 8
  unfolding two bytes_past
  back-eight e =
      let low : word64 bytes 0 ≤ 256 ^ 8 - 1 =
      omega (arith, small 0, small 1, small 2, small 3, small 4, small 5, small 6, small 7) in
      back-with 8 low (front 8 ∙ sym (listed bytes 8 e))

  at_width : (k width : ℕ) → width ≡ k → Back k → Back width
  at_width k width e b = rw e b

  number-back : (width : ℕ) → is_width width ≡ true → Back width
  number-back width f = width-cases Back width f back_one back-two back-eight

  pci-bytes : length bytes ≡ 2 → option_map le16 (read_pci (pci_text (word16 bytes 0))) ≡ Some bytes
  unfolding two bytes_past
  pci-bytes e =
      let low : word16 bytes 0 < 65536 = omega (arith, small 0, small 1) in
      ap (option_map le16) (pci-back (word16 bytes 0) low) ∙ ap Some (le16-word bytes small 0 ∙ sym (listed bytes 2 e))

-- ---- OEM fields

zeros-are : (t : List ℕ) → all_zero t ≡ true → zeros (length t) ≡ t
unfolding zeros all_zero
zeros-are [] e = refl
zeros-are (b ∷ t) e =
    let both = and_both (eqb b 0) (all_zero t) e in
    rw (eqb-true b 0 both.0, zeros-are t both.1)

pub take-small : (t : List ℕ) (n : ℕ) → Bytes t → Bytes (take n t)
take-small [] zero h i = omega arith
take-small [] (suc n) h i = h i
take-small (b ∷ t) zero h i = omega arith
take-small (b ∷ t) (suc n) h zero = h 0
take-small (b ∷ t) (suc n) h (suc i) = take-small t n (λ j. h (suc j)) i

-- the string before the first zero, with zeros behind it
oem-filled : (t : List ℕ) → padded t ≡ true → take (index_of 0 t) t ++ zeros (length t - index_of 0 t) ≡ t
unfolding before padded zeros
oem-filled [] e = refl
oem-filled (b ∷ t) e = go (eqb b 0) refl e (oem-filled t)
  where
    go : (x : Bool) → eqb b 0 ≡ x → cond x (all_zero t) (padded t) ≡ true
        → (padded t ≡ true → take (index_of 0 t) t ++ zeros (length t - index_of 0 t) ≡ t)
        → take (cond x 0 (suc (index_of 0 t))) (b ∷ t) ++ zeros (suc (length t) - cond x 0 (suc (index_of 0 t))) ≡ b ∷ t
    go true z all rest =
        let whole : suc (length t) - 0 ≡ suc (length t) = omega arith in
        rw (whole, eqb-true b 0 z, zeros-are t all)
    go false z all rest =
        let less : suc (length t) - suc (index_of 0 t) ≡ length t - index_of 0 t = omega arith in
        rw (less, rest all)

index-within : (t : List ℕ) → length (take (index_of 0 t) t) ≡ index_of 0 t
unfolding before
index-within [] = refl
index-within (b ∷ t) = go (eqb b 0) (index-within t)
  where
    go : (x : Bool) → length (take (index_of 0 t) t) ≡ index_of 0 t → length (take (cond x 0 (suc (index_of 0 t))) (b ∷ t)) ≡ cond x 0 (suc (index_of 0 t))
    go true rest = refl
    go false rest = ap suc rest

index-most : (t : List ℕ) → index_of 0 t ≤ length t
unfolding before
index-most [] = omega arith
index-most (b ∷ t) = go (eqb b 0) (index-most t)
  where
    go : (x : Bool) → index_of 0 t ≤ length t → cond x 0 (suc (index_of 0 t)) ≤ suc (length t)
    go true rest = omega arith
    go false rest = omega arith

oem-back : (width : ℕ) (bytes : List ℕ) → padded bytes ≡ true → length bytes ≡ width → Bytes bytes
    → filled width (string_of (oem_text bytes)) ≡ Some bytes
oem-back width bytes pad e small =
    let string = take (index_of 0 bytes) bytes in
    let within : length string ≤ width = omega (arith, index-within bytes, index-most bytes, e) in
    let rest : width - length string ≡ length bytes - index_of 0 bytes = omega (arith, index-within bytes, e) in
    ap (filled width) (string-back string (take-small bytes (index_of 0 bytes) small))
    ∙ rw (le-leb (length string) width within, rest, oem-filled bytes pad)

-- ---- every notation

-- what the bytes of a value are, beside small and as many as the field has: an OEM field's are zero behind its first zero; a
-- mode, a CHAP type and flags are those that have a word
abbrev pub Said : List ℕ → Notation → List ℕ → Type 0
Said flags Oem bytes = padded bytes ≡ true
Said flags Mode bytes = byte bytes 0 < word_count modes
Said flags Flags bytes = (good_list flags ≡ true) × (byte bytes 0 < 2 ^ word_count flags)
Said flags Number bytes = Unit
Said flags Port bytes = Unit
Said flags Address bytes = Unit
Said flags Mac bytes = Unit
Said flags Pci bytes = Unit
Said flags Chap bytes = byte bytes 0 < word_count chap_types
Said flags Text bytes = ⊥

sized : (width k : ℕ) (bytes : List ℕ) → eqb width k ≡ true → length bytes ≡ width → length bytes ≡ k
sized width k bytes f e = e ∙ eqb-true width k f

pub value-back : (flags : List ℕ) (notation : Notation) (width : ℕ) (bytes : List ℕ) → fits notation width ≡ true → length bytes ≡ width → Bytes bytes
    → Said flags notation bytes → value_bytes flags notation width (value_text flags notation bytes) ≡ Some bytes
unfolding value_bytes value_text fits
value-back flags Oem width bytes f e small said = oem-back width bytes said e small
value-back flags Mode width bytes f e small said = word_back modes bytes modes-distinct said (sized width 1 bytes f e)
value-back flags Flags width bytes f e small said = flags-back flags bytes said.0 said.1 (sized width 1 bytes f e)
value-back flags Number width bytes f e small said = number-back bytes small width f e
value-back flags Port width bytes f e small said = at_width bytes small 2 width (eqb-true width 2 f) (back-two bytes small) e
value-back flags Address width bytes f e small said =
    let all = sized width 16 bytes f e in
    ap (λ (t : List ℕ). read_address (address_text t)) (sym (listed bytes 16 all)) ∙ address-back bytes all small
value-back flags Mac width bytes f e small said = mac-back bytes (sized width 6 bytes f e) small
value-back flags Pci width bytes f e small said = pci-bytes bytes small (sized width 2 bytes f e)
value-back flags Chap width bytes f e small said = word_back chap_types bytes types-distinct said (sized width 1 bytes f e)
value-back flags Text width bytes f e small said = absurd said

-- the text of a field, read, is its bytes
pub field_back : (kind n : ℕ) (bytes : List ℕ) → length bytes ≡ (field_of kind n).width → Bytes bytes
    → Said (group_of kind).flags (field_of kind n).notation bytes → field_bytes kind n (field_text kind n bytes) ≡ Some bytes
field_back kind n bytes e small said =
    value-back (group_of kind).flags (field_of kind n).notation (field_of kind n).width bytes (field_fits kind n) e small said
