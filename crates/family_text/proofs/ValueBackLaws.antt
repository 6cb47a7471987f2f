-- Reading back: the text of a value, read, is the bytes that it was put from. Each notation has its own law of reading back;
-- what is left is that bytes and the numbers of them go over into each other.
--     zero-bytes      bytes that are all zero
--     take-small      some of the bytes are bytes
--     value-back      the text of a value, read, is its bytes
-- Assumes nothing.
use Rattle.std.specs.Prelude.{Some, option_map}
use mathlib.Core.Path.{◌≡◌, refl, sym, ap, ◌∙◌}
use mathlib.Core.List.{List, [], ◌∷◌, ◌++◌}
use mathlib.Core.Bool.{Bool, true, false, cond, ◌||◌}
use Prim.Native.Nat.{ℕ, zero, suc, ◌-◌, ◌^◌, ◌≤◌}
use native.Mathlib.Nat.{zero-add}
use native.Mathlib.Omega.{arith}
use borrow.Author.Tests.{le-leb, leb-true, eqb-true}
use lib.ListN.{length, take}
use lib.Dec.{eqb, leb}
use Rattle.octets.specs.Octets.{byte, word16, bytes_past, bytes_at, le16, zeros, all_zero}
use Rattle.octets.proofs.ReadLaws.{bytes-elements, byte_past}
use Rattle.octets.proofs.TestLaws.{and_both}
use Rattle.octets.proofs.WriteLaws.{get_d-zeros}
use Rattle.octets.proofs.WordLaws.{two, le16-word}
use Rattle.text.specs.Split.{before, index_of}
use Rattle.notation.specs.Number.{digits}
use Rattle.notation.proofs.NumberLaws.{number_up_to-digits}
use Rattle.notation.specs.Address.{read_address, address_text}
use Rattle.notation.proofs.AddressLaws.{address-back}
use Rattle.notation.specs.Pairs.{read_pairs, pairs_text}
use Rattle.notation.proofs.PairsLaws.{pairs-back}
use Rattle.notation.specs.Escape.{string_of}
use Rattle.notation.proofs.EscapeLaws.{string-back}
use Rattle.table_header.specs.Header.{padded}
use Rattle.notation.specs.Value.{filled}
use Rattle.family_text.specs.Value.{number_bytes, value_bytes, fits, oem_text, value_text}
use Rattle.family_text.specs.Enter.{is_oem}
use Rattle.family_text.specs.Promises.{Bytes}
use Rattle.family_text.specs.declared.fields.Notation.{Notation}
use Rattle.family_text.specs.declared.fields.Notation.TheVariants.{Oem, Number, Pairs, Address}

-- ---- bytes

listed : (bytes : List ℕ) (n : ℕ) → length bytes ≡ n → bytes ≡ bytes_at bytes 0 n
listed bytes n e = bytes-elements bytes bytes 0 n e (λ j h. ap (byte bytes) (sym (zero-add j)))

-- ---- numbers

module _ (bytes : List ℕ) (small : Bytes bytes) where
  -- a number of so many bytes
  abbrev Back : ℕ → Type 0
  Back width = length bytes ≡ width → number_bytes width (digits 10 (word16 bytes 0)) ≡ Some bytes

  back-with : (width : ℕ) → word16 bytes 0 ≤ 256 ^ width - 1 → take width (le16 (word16 bytes 0)) ≡ bytes
      → number_bytes width (digits 10 (word16 bytes 0)) ≡ Some bytes
  unfolding number_bytes
  back-with width h e =
      ap (option_map (λ (n : ℕ). take width (le16 n))) (number_up_to-digits (256 ^ width - 1) (word16 bytes 0) h) ∙ ap Some e

  front : (width : ℕ) → take width (le16 (word16 bytes 0)) ≡ take width (two bytes small 0)
  front width = ap (take width) (le16-word bytes small 0)

  back_one : Back 1
  unfolding two bytes_past
  back_one e =
      let low : word16 bytes 0 ≤ 256 ^ 1 - 1 = omega (arith, small 0, byte_past bytes 1 (omega arith)) in
      back-with 1 low (front 1 ∙ sym (listed bytes 1 e))

  back-two : Back 2
  unfolding two bytes_past
  back-two e =
      let low : word16 bytes 0 ≤ 256 ^ 2 - 1 = omega (arith, small 0, small 1) in
      back-with 2 low (front 2 ∙ sym (listed bytes 2 e))

  number-back : (width : ℕ) → fits Number width ≡ true → Back width
  unfolding fits
  number-back width f = go (eqb width 1) refl f
    where
      go : (x : Bool) → eqb width 1 ≡ x → (x || eqb width 2) ≡ true → Back width
      go true a h = rw (eqb-true width 1 a) back_one
      go false a h = rw (eqb-true width 2 h) back-two

-- ---- OEM fields

zeros-are : (t : List ℕ) → all_zero t ≡ true → zeros (length t) ≡ t
unfolding zeros all_zero
zeros-are [] e = refl
zeros-are (b ∷ t) e =
    let both = and_both (eqb b 0) (all_zero t) e in
    rw (eqb-true b 0 both.0, zeros-are t both.1)

pub zero-bytes : (t : List ℕ) → all_zero t ≡ true → (i : ℕ) → byte t i ≡ 0
zero-bytes t e i = ap (λ (x : List ℕ). byte x i) (sym (zeros-are t e)) ∙ get_d-zeros (length t) i

pub take-small : (t : List ℕ) (n : ℕ) → Bytes t → Bytes (take n t)
take-small [] zero h i = omega arith
take-small [] (suc n) h i = h i
take-small (b ∷ t) zero h i = omega arith
take-small (b ∷ t) (suc n) h zero = h 0
take-small (b ∷ t) (suc n) h (suc i) = take-small t n (λ j. h (suc j)) i

-- the string before the first zero, with zeros behind it
oem-filled : (t : List ℕ) → padded t ≡ true → take (index_of 0 t) t ++ zeros (length t - index_of 0 t) ≡ t
unfolding before padded zeros
oem-filled [] e = refl
oem-filled (b ∷ t) e = go (eqb b 0) refl e (oem-filled t)
  where
    go : (x : Bool) → eqb b 0 ≡ x → cond x (all_zero t) (padded t) ≡ true
        → (padded t ≡ true → take (index_of 0 t) t ++ zeros (length t - index_of 0 t) ≡ t)
        → take (cond x 0 (suc (index_of 0 t))) (b ∷ t) ++ zeros (suc (length t) - cond x 0 (suc (index_of 0 t))) ≡ b ∷ t
    go true z all rest =
        let whole : suc (length t) - 0 ≡ suc (length t) = omega arith in
        rw (whole, eqb-true b 0 z, zeros-are t all)
    go false z all rest =
        let less : suc (length t) - suc (index_of 0 t) ≡ length t - index_of 0 t = omega arith in
        rw (less, rest all)

index-within : (t : List ℕ) → length (take (index_of 0 t) t) ≡ index_of 0 t
unfolding before
index-within [] = refl
index-within (b ∷ t) = go (eqb b 0) (index-within t)
  where
    go : (x : Bool) → length (take (index_of 0 t) t) ≡ index_of 0 t → length (take (cond x 0 (suc (index_of 0 t))) (b ∷ t)) ≡ cond x 0 (suc (index_of 0 t))
    go true rest = refl
    go false rest = ap suc rest

index-most : (t : List ℕ) → index_of 0 t ≤ length t
unfolding before
index-most [] = omega arith
index-most (b ∷ t) = go (eqb b 0) (index-most t)
  where
    go : (x : Bool) → index_of 0 t ≤ length t → cond x 0 (suc (index_of 0 t)) ≤ suc (length t)
    go true rest = omega arith
    go false rest = omega arith

oem-back : (width : ℕ) (bytes : List ℕ) → padded bytes ≡ true → length bytes ≡ width → Bytes bytes
    → filled width (string_of (oem_text bytes)) ≡ Some bytes
oem-back width bytes pad e small =
    let string = take (index_of 0 bytes) bytes in
    let within : length string ≤ width = omega (arith, index-within bytes, index-most bytes, e) in
    let rest : width - length string ≡ length bytes - index_of 0 bytes = omega (arith, index-within bytes, e) in
    ap (filled width) (string-back string (take-small bytes (index_of 0 bytes) small))
    ∙ rw (le-leb (length string) width within, rest, oem-filled bytes pad)

-- ---- pairs, of which there is at least one

pairs-written : (width : ℕ) (bytes : List ℕ) → 1 ≤ width → length bytes ≡ width → Bytes bytes → read_pairs width (pairs_text width bytes) ≡ Some bytes
pairs-written zero bytes h e small = absurd (omega arith)
pairs-written (suc n) bytes h e small = pairs-back bytes n e small

-- ---- every notation

pub value-back : (notation : Notation) (width : ℕ) (bytes : List ℕ) → fits notation width ≡ true → length bytes ≡ width → Bytes bytes
    → (is_oem notation ≡ true → padded bytes ≡ true) → value_bytes notation width (value_text notation width bytes) ≡ Some bytes
unfolding value_bytes value_text fits is_oem
value-back Oem width bytes f e small said = oem-back width bytes (said refl) e small
value-back Number width bytes f e small said = number-back bytes small width f e
value-back Pairs width bytes f e small said =
    pairs-written width bytes (leb-true 1 width (and_both (leb 1 width) (leb width 16) f).0) e small
value-back Address width bytes f e small said =
    let all : length bytes ≡ 16 = e ∙ eqb-true width 16 f in
    ap (λ (t : List ℕ). read_address (address_text t)) (sym (listed bytes 16 all)) ∙ address-back bytes all small
