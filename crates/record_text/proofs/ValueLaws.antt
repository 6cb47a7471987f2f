-- Laws of values read.
--     field_fits                      every field has a width that its notation can have
--     each_at, each_field, each-field-at, group_passes, group-field, every-field, slot-field     a test of all fields
--     number-width                    the widths of a number
--     port-width, port-number, oem-width     the width of a port, and of an OEM field
--     number_read, number-unread      the bytes of a number that is read, or not
--     bytes_read, address-read, address-unread     bytes
--     flags-row                       the names of a kind's flags
--     word_read, word-unread          a word
-- Assumes nothing.
use mathlib.Core.Path.{◌≡◌, refl, sym, ap, ◌∙◌}
use mathlib.Core.List.{List, [], ◌∷◌}
use Rattle.std.specs.Prelude.{Option, None, Some, option_map, is_some, unwrap_or}
use mathlib.Core.Bool.{Bool, true, false, ◌&&◌}
use native.Mathlib.Decide.{dec_lt}
use Prim.Native.Nat.{ℕ, zero, suc, ◌-◌, ◌^◌, ◌≤◌, ◌<◌}
use native.Mathlib.Omega.{arith}
use borrow.Author.Tests.{lt-ltb, le-ltb, leb-true, ne_eqb, eqb-true}
use lib.ListN.{length, take, get_or}
use Rattle.octets.specs.Octets.{le64, zeros, write}
use Rattle.octets.proofs.WriteLaws.{length-zeros, write-front}
use Rattle.octets.proofs.CountingLaws.{clash}
use Rattle.octets.proofs.TestLaws.{and_both}
use Rattle.text.specs.Split.{each}
use Rattle.text.specs.Words.{word_number, word_count}
use Rattle.notation.specs.Number.{number_up_to}
use Rattle.notation.specs.Value.{is_width, sixteen, number_bytes, value_read}
use Rattle.notation.proofs.ZerosLaws.{zeros-drop}
use Rattle.ibft_layout.specs.Layout.{Kind, Field, field, initiator, kinds, kind_of}
use Rattle.record_text.specs.Fields.{Group, groups, oem, group_of, notation_in, place_in, field_of}
use Rattle.record_text.specs.declared.fields.Notation.{Notation}
use Rattle.record_text.specs.declared.fields.Notation.TheVariants.{Oem, Port, Number as NumberField}
use Rattle.record_text.specs.Value.{word_byte, fits}

-- ---- widths

-- the widths of a number
pub number-width : (width : ℕ) → fits NumberField width ≡ true → (width ≡ 1 → ⊥) → (width ≡ 2 → ⊥) → 8 ≡ width
unfolding fits is_width
number-width width e one two =
    elim (dec_lt width 8) [
      | yes h ↦ absurd (other (omega arith))
      | no h ↦
          elim (dec_lt 8 width) [
            | yes g ↦ absurd (other (omega arith))
            | no g ↦ omega arith
          ]
    ]
  where
    other : (width ≡ 8 → ⊥) → ⊥
    other h =
        let refused : fits NumberField width ≡ false = rw (ne_eqb width 1 one, ne_eqb width 2 two, ne_eqb width 8 h) in
        let z : ◌≡◌ {A = ℕ} 0 1 = cc in absurd (omega arith)

-- the width of a port, which a number can have, and of an OEM field
pub port-width : (notation : Notation) (width : ℕ) → notation ≡ Port → fits notation width ≡ true → 2 ≡ width
unfolding fits
port-width notation width e h = sym (eqb-true width 2 (rw e at h))

pub port-number : (notation : Notation) (width : ℕ) → notation ≡ Port → fits notation width ≡ true → is_width width ≡ true
unfolding is_width
port-number notation width e h = let two : 2 ≡ width = port-width notation width e h in rw (← two)

pub oem-width : (notation : Notation) (width : ℕ) → notation ≡ Oem → fits notation width ≡ true → width ≤ 16
unfolding fits
oem-width notation width e h = leb-true width 16 (sym (ap (λ (n : Notation). fits n width) e) ∙ h)

-- every field has a width that its notation can have: a test over all fields, each a notation and a place
pub each_at {ℓ} : {A : Type ℓ} (p : A → Bool) (xs : List A) (n : ℕ) (d : A) → each p xs ≡ true → p d ≡ true → p (get_or xs n d) ≡ true
unfolding each
each_at p [] n d all last = last
each_at p (x ∷ xs) zero d all last = (and_both (p x) (each p xs) all).0
each_at p (x ∷ xs) (suc n) d all last = each_at p xs n d (and_both (p x) (each p xs) all).1 last

unfoldable pub each_field : (Notation → Field → Bool) → List Notation → List Field → Bool
each_field p [] [] = true
each_field p [] (y ∷ ys) = false
each_field p (x ∷ xs) [] = false
each_field p (x ∷ xs) (y ∷ ys) = p x y && each_field p xs ys

pub each-field-at : (p : Notation → Field → Bool) (xs : List Notation) (ys : List Field) (n : ℕ) (d : Notation) (e : Field)
    → each_field p xs ys ≡ true → p d e ≡ true → p (get_or xs n d) (get_or ys n e) ≡ true
unfolding each_field
each-field-at p [] [] n d e all last = last
each-field-at p [] (y ∷ ys) n d e all last = clash all refl
each-field-at p (x ∷ xs) [] n d e all last = clash all refl
each-field-at p (x ∷ xs) (y ∷ ys) zero d e all last = (and_both (p x y) (each_field p xs ys) all).0
each-field-at p (x ∷ xs) (y ∷ ys) (suc n) d e all last = each-field-at p xs ys n d e (and_both (p x y) (each_field p xs ys) all).1 last

-- a test of every field of a group: field 0 stands for those past the last
unfoldable pub group_passes : (Notation → Field → Bool) → Group → Bool
group_passes p group = p (get_or group.notations 0 Oem) (get_or group.layout 0 (field 0 6)) && each_field p group.notations group.layout

pub group-field : (p : Notation → Field → Bool) (group : Group) (n : ℕ) → group_passes p group ≡ true
    → p (notation_in group n) (place_in group n) ≡ true
unfolding group_passes notation_in place_in
group-field p group n all =
    let both = and_both (p (get_or group.notations 0 Oem) (get_or group.layout 0 (field 0 6))) _ all in
    each-field-at p group.notations group.layout n _ _ both.1 both.0

-- .. of every kind
pub every-field : (p : Notation → Field → Bool) → each (group_passes p) groups ≡ true → group_passes p oem ≡ true
    → (kind n : ℕ) → p (notation_in (group_of kind) n) (place_in (group_of kind) n) ≡ true
unfolding group_of
every-field p all past kind n = group-field p (group_of kind) n (each_at (group_passes p) groups kind oem all past)

-- .. of the kind of every slot
pub slot-field : (p : Kind → Notation → Field → Bool) → each (λ (kind : Kind). group_passes (p kind) (group_of kind.id)) kinds ≡ true
    → (k n : ℕ) → p (kind_of k) (notation_in (group_of (kind_of k).id) n) (place_in (group_of (kind_of k).id) n) ≡ true
unfolding kind_of each
slot-field p all k n =
    let passes : Kind → Bool = λ (kind : Kind). group_passes (p kind) (group_of kind.id) in
    group-field (p (kind_of k)) (group_of (kind_of k).id) n (each_at passes kinds k initiator all (and_both (passes initiator) _ all).0)

fit : Notation → Field → Bool
fit notation place = fits notation place.width

pub field_fits : (kind n : ℕ) → fits (field_of kind n).notation (field_of kind n).width ≡ true
unfolding each each_field group_passes field_of fit fits is_width
field_fits kind n = every-field fit refl refl kind n

-- ---- numbers

-- what a number that is read says of its bytes
abbrev of_number : ℕ → Option ℕ → Option (List ℕ)
of_number width (Some n) = value_read (Some (take width (le64 n)))
of_number width None = value_read None

of-number : (width : ℕ) (o : Option ℕ) → of_number width o ≡ value_read (option_map (λ (n : ℕ). take width (le64 n)) o)
of-number width None = refl
of-number width (Some n) = refl

-- the bytes of a number that was read, and none where none was
pub number_read : (width n : ℕ) (text : List ℕ) → Some n ≡ number_up_to (256 ^ width - 1) text
    → value_read (Some (take width (le64 n))) ≡ value_read (number_bytes width text)
unfolding number_bytes
number_read width n text e = ap (of_number width) e ∙ of-number width (number_up_to (256 ^ width - 1) text)

pub number-unread : (width : ℕ) (text : List ℕ) → None ≡ number_up_to (256 ^ width - 1) text → value_read None ≡ value_read (number_bytes width text)
unfolding number_bytes
number-unread width text e = ap (of_number width) e ∙ of-number width (number_up_to (256 ^ width - 1) text)

-- ---- bytes

-- bytes written in front of sixteen zeros
pub bytes_read : (bytes all : List ℕ) → length bytes ≤ 16 → all ≡ write (zeros 16) 0 bytes → Some all ≡ value_read (Some bytes)
unfolding value_read
bytes_read bytes all h e =
    rw (e, write-front (zeros 16) bytes (omega (arith, length-zeros 16)), zeros-drop (length bytes) 16)

-- what was answered for an address: it is read, or it is not
pub address-read : (o a : Option (List ℕ)) → a ≡ o → is_some a ≡ true → Some (unwrap_or a []) ≡ o
address-read o None e there = clash there refl
address-read o (Some bytes) e there = e

pub address-unread : (o a : Option (List ℕ)) → a ≡ o → is_some a ≡ false → None ≡ o
address-unread o None e none = e
address-unread o (Some bytes) e none = clash refl none

-- ---- flags

-- the names of the flags of kind m, where the kind is m; kinds that are no structure's have none
pub flags-row : (m kind : ℕ) → kind ≡ m → (group_of m).flags ≡ (group_of kind).flags
flags-row m kind e = ap (λ (k : ℕ). (group_of k).flags) (sym e)

-- ---- words

pub word_read : (list text : List ℕ) (n : ℕ) → n ≡ word_number list text → n < word_count list
    → Some (sixteen (n ∷ [])) ≡ value_read (word_byte list text)
unfolding word_byte value_read
word_read list text n e h =
    let low : word_number list text < word_count list = omega (arith, e, h) in
    rw (lt-ltb (word_number list text) (word_count list) low, e)

pub word-unread : (list text : List ℕ) (n : ℕ) → n ≡ word_number list text → word_count list ≤ n
    → None ≡ value_read (word_byte list text)
unfolding word_byte value_read
word-unread list text n e h =
    let high : word_count list ≤ word_number list text = omega (arith, e, h) in
    rw (le-ltb (word_number list text) (word_count list) high)
