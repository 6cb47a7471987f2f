-- The text of an accepted table is short enough for `enter`: a string has at most 255 bytes, each written as four at most, and
-- every other value and every name is short; so each line is, and the lines of all fields of all groups are added up.
--     gather-most         lists one after another are no longer than their bounds together
--     name-short          the name of a field
--     value-short         the text of a value that is no string
--     line-short          a line
--     text-fits           the text of an accepted table
-- Assumes nothing.
use Rattle.std.specs.Prelude.{Option, None, Some}
use mathlib.Core.Path.{◌≡◌, refl, sym, ap, ◌∙◌}
use mathlib.Core.List.{List, [], ◌∷◌, ◌++◌}
use mathlib.Core.Bool.{Bool, true, false, cond, not}
use Prim.Native.Char.{code}
use Prim.Native.Nat.{ℕ, zero, suc, ◌+◌, ◌*◌, ◌^◌, ◌≤◌, ◌<◌}
use native.Mathlib.Nat.{zero-add}
use native.Mathlib.Omega.{arith}
use borrow.Author.Tests.{eqb-true, leb-true, le-leb, not-true}
use lib.ListN.{length, take, length-append, length-take}
use lib.Dec.{leb, ltb}
use Rattle.octets.specs.Counting.{first, any, sum_to, gather}
use Rattle.octets.specs.Octets.{byte, word16, word64, bytes_at}
use Rattle.octets.proofs.CountingLaws.{each_holds, gather-last}
use Rattle.octets.proofs.TestLaws.{and_both}
use Rattle.octets.proofs.ReadLaws.{bytes-elements}
use Rattle.text.specs.Split.{each, index_of}
use Rattle.text.specs.Words.{words_of, word_at, word_count, word_set_text}
use Rattle.text.specs.Computing.{computing as of-text}
use Rattle.notation.specs.Number.{digits, padded}
use Rattle.notation.specs.Address.{address_text}
use Rattle.notation.specs.Pairs.{pairs_text}
use Rattle.notation.specs.Mac.{mac_text}
use Rattle.notation.specs.Pci.{pci_text}
use Rattle.notation.proofs.NumberLaws.{digits-length, decimal-length}
use Rattle.notation.proofs.AddressLaws.{text-length as address-length}
use Rattle.notation.proofs.EscapeLaws.{text-length as string-length}
use Rattle.ibft_table.specs.Check.{check_of}
use Rattle.ibft_table.specs.Record.{record_of}
use Rattle.table_header.specs.Verdict.{Accepted}
use Rattle.record_text.specs.Fields.{Group, oem, groups, group_names, first_indexed, group_of, is_text, is_oem, field_of, field_count, index_text, dotted, name_of}
use Rattle.record_text.specs.Value.{modes, chap_types, fits, value_text, field_text}
use Rattle.record_text.specs.Enter.{group_count}
use Rattle.record_text.specs.Tell.{kind_number, index_held, record_field, is_told, line_with, line_of, field_line, group_text, record_text, if_accepted, table_text}
use Rattle.record_text.specs.Promises.{Bytes, longest_text}
use Rattle.record_text.specs.Computing.{computing}
use Rattle.record_text.specs.declared.fields.Notation.{Notation}
use Rattle.record_text.specs.declared.fields.Notation.TheVariants.{Oem, Mode, Flags, Number, Port, Address, Mac, Pci, Chap, Text}
use Rattle.record_text.proofs.ValueLaws.{each_at, field_fits}
use Rattle.record_text.proofs.WidthLaws.{field-width}
use Rattle.record_text_laws.proofs.ValueBackLaws.{Said}
use Rattle.record_text_laws.proofs.ToldBackLaws.{text-entry, text-is, length_held, entry-short, told-said, told-small, told-value, told-entry}
use Rattle.record_text_laws.proofs.LineBackLaws.{group-indexed}

-- ---- bounds added up

pub gather-most : (f : ℕ → List ℕ) (most : ℕ → ℕ) (n : ℕ) → ((k : ℕ) → k < n → length (f k) ≤ most k) → length (gather f 0 n) ≤ sum_to n most
unfolding gather sum_to
gather-most f most zero h = omega arith
gather-most f most (suc n) h =
    rw (gather-last f 0 n, zero-add n)
    (omega (arith, length-append (gather f 0 n) (f n), gather-most f most n (λ k l. h k (omega arith)), h n (omega arith)))

-- ---- words of a list

short_word : ℕ → List ℕ → Bool
short_word most w = leb (length w) most

word-short : (most : ℕ) (list : List ℕ) → each (short_word most) (words_of list) ≡ true → (n : ℕ) → length (word_at list n) ≤ most
unfolding short_word
word-short most list all n =
    leb-true (length (word_at list n)) most (each_at (short_word most) (words_of list) n [] all (le-leb 0 most (omega arith)))

-- ---- names: a group's, at most three digits, a dot, a field's own

abbrev name_most : ℕ
name_most = 9 + (3 + (1 + 14))

kinds-short : each (short_word 9) (words_of group_names) ≡ true
unfolding of-text short_word
kinds-short = refl

short_names : Group → Bool
short_names group = each (short_word 14) (words_of group.names)

names-short : each short_names groups ≡ true
unfolding of-text short_names short_word
names-short = refl

own-short : (kind n : ℕ) → length (dotted (word_at (group_of kind).names n)) ≤ 1 + 14
unfolding group_of short_names each
own-short kind n =
    go (word_at (group_of kind).names n)
    (word-short 14 (group_of kind).names (each_at short_names groups kind oem names-short (and_both (short_names oem) _ names-short).0) n)
  where
    go : (w : List ℕ) → length w ≤ 14 → length (dotted w) ≤ 1 + 14
    go [] h = omega arith
    go (b ∷ w) h = omega arith

pub name-short : (kind index n : ℕ) → index < 256 → length (name_of kind index n) ≤ name_most
unfolding name_of index_text
name-short kind index n small =
    let own = dotted (word_at (group_of kind).names n) in
    omega (
      arith,
      length-append (word_at group_names kind) (index_text kind index ++ own),
      length-append (index_text kind index) own,
      word-short 9 group_names kinds-short kind,
      own-short kind n,
      go (ltb kind first_indexed),
    )
  where
    go : (b : Bool) → length (cond b [] (digits 10 index)) ≤ 3
    go true = omega arith
    go false = decimal-length index small

-- ---- values: a byte of a string is written as four at most, a string of none as two; every other value has at most 39, as an
-- address has

abbrev value_most : ℕ
value_most = 39

unfoldable pub text_most : Notation → ℕ
text_most notation = cond (is_text notation) (4 * 255 + 2) (cond (is_oem notation) (4 * 16 + 2) value_most)

modes-short : each (short_word value_most) (words_of modes) ≡ true
unfolding of-text short_word
modes-short = refl

types-short : each (short_word value_most) (words_of chap_types) ≡ true
unfolding of-text short_word
types-short = refl

short_flags : Group → Bool
short_flags group = not (any (2 ^ word_count group.flags) (λ (v : ℕ). not (short_word value_most (word_set_text group.flags v))))

sets-short : each short_flags groups ≡ true
unfolding of-text any first short_flags short_word
sets-short = refl

flags-short : (kind v : ℕ) → v < 2 ^ word_count (group_of kind).flags → length (word_set_text (group_of kind).flags v) ≤ value_most
unfolding group_of short_flags short_word each
flags-short kind v h =
    let flags = (group_of kind).flags in
    let all = each_at short_flags groups kind oem sets-short (and_both (short_flags oem) _ sets-short).0 in
    leb-true (length (word_set_text flags v)) value_most
    (each_holds (2 ^ word_count flags) (λ (v : ℕ). short_word value_most (word_set_text flags v)) (not-true _ all) v h)

number_short : (bytes : List ℕ) → Bytes bytes → length (digits 10 (word64 bytes 0)) ≤ 20
number_short bytes small =
    digits-length 10 (omega arith) 19 (word64 bytes 0)
    (omega (arith, small 0, small 1, small 2, small 3, small 4, small 5, small 6, small 7))

address-short : (bytes : List ℕ) → length bytes ≡ 16 → Bytes bytes → length (address_text (bytes_at bytes 0 16)) ≤ 39
address-short bytes all small =
    let is : bytes ≡ bytes_at bytes 0 16 = bytes-elements bytes bytes 0 16 all (λ j h. ap (byte bytes) (sym (zero-add j))) in
    rw (← is) (address-length bytes all small)

mac-length : (bytes : List ℕ) → length (mac_text bytes) ≡ 17
unfolding mac_text pairs_text gather padded
mac-length bytes = refl

pci-length : (w : ℕ) → length (pci_text w) ≡ 7
unfolding pci_text padded
pci-length w = refl

pub value-short : (kind : ℕ) (notation : Notation) (width : ℕ) (bytes : List ℕ) → fits notation width ≡ true → length bytes ≡ width
    → Bytes bytes → Said (group_of kind).flags notation bytes → length (value_text (group_of kind).flags notation bytes) ≤ text_most notation
unfolding value_text fits text_most is_text is_oem
value-short kind Oem width bytes f e small said =
    omega (arith, leb-true width 16 f, string-length (take (index_of 0 bytes) bytes), length-take (index_of 0 bytes) bytes)
value-short kind Mode width bytes f e small said = word-short value_most modes modes-short (byte bytes 0)
value-short kind Flags width bytes f e small said = flags-short kind (byte bytes 0) said.1
value-short kind Number width bytes f e small said = omega (arith, number_short bytes small)
value-short kind Port width bytes f e small said = omega (arith, number_short bytes small)
value-short kind Address width bytes f e small said = omega (arith, address-short bytes (e ∙ eqb-true width 16 f) small)
value-short kind Mac width bytes f e small said = omega (arith, mac-length bytes)
value-short kind Pci width bytes f e small said = omega (arith, pci-length (word16 bytes 0))
value-short kind Chap width bytes f e small said = word-short value_most chap_types types-short (byte bytes 0)
value-short kind Text width bytes f e small said = absurd said

-- ---- a line: the name, a space, the value, a line feed

unfoldable pub line_most : ℕ → ℕ → ℕ
line_most kind n = name_most + (2 + text_most (field_of kind n).notation)

module _ (t : List ℕ) (ok : check_of t ≡ Accepted) (small : Bytes t) (g n : ℕ) (group : g < group_count) (number : n < field_count (kind_number g)) where
  abbrev kind : ℕ
  kind = kind_number g

  abbrev index : ℕ
  index = index_held (record_of t) g

  text-short : (bytes : List ℕ) → record_field (record_of t) g n ≡ Some bytes → length (field_text kind n bytes) ≤ text_most (field_of kind n).notation
  unfolding text_most length_held
  text-short bytes told = go (is_text (field_of kind n).notation) refl
    where
      go : (b : Bool) → is_text (field_of kind n).notation ≡ b → length (field_text kind n bytes) ≤ text_most (field_of kind n).notation
      go true e =
          let entry = entry-short t ok _ (told-entry t ok small g n group number bytes told e) in
          let held : length bytes ≤ 255 = rw (sym (text-entry (record_of t) g n e) ∙ told) at entry in
          rw (text-is (group_of kind).flags (field_of kind n).notation bytes e, e) (omega (arith, string-length bytes))
      go false e =
          value-short kind (field_of kind n).notation (field_of kind n).width bytes (field_fits kind n)
          (field-width kind n (field_text kind n bytes) bytes (told-value t ok small g n group number bytes told e))
          (told-small t ok small g n group number bytes told e) (told-said t ok small g n group number bytes told e)

  with-short : (bytes : List ℕ) → record_field (record_of t) g n ≡ Some bytes → length (line_with kind index n bytes) ≤ line_most kind n
  unfolding line_with line_most
  with-short bytes told =
      let own = name_of kind index n in
      let text = field_text kind n bytes in
      omega (
        arith,
        length-append own (code " " ∷ (text ++ (10 ∷ []))),
        length-append text (10 ∷ []),
        name-short kind index n (group-indexed t small g group).byte-sized,
        text-short bytes told,
      )

  pub line-short : length (field_line false (record_of t) g n) ≤ line_most kind n
  unfolding line_of
  line-short = go (record_field (record_of t) g n) refl
    where
      go : (o : Option (List ℕ)) → record_field (record_of t) g n ≡ o → length (line_of false kind index n o) ≤ line_most kind n
      go None told = omega arith
      go (Some bytes) told = shown (is_told kind n bytes)
        where
          shown : (b : Bool) → length (cond b (line_with kind index n bytes) []) ≤ line_most kind n
          shown true = with-short bytes told
          shown false = omega arith

-- ---- the text

group_most : ℕ → ℕ
group_most g = sum_to (field_count (kind_number g)) (line_most (kind_number g))

all_most : leb (sum_to group_count group_most) longest_text ≡ true
unfolding computing group_most line_most text_most
all_most = refl

pub text-fits : (t : List ℕ) → check_of t ≡ Accepted → Bytes t → length (table_text false t) ≤ longest_text
unfolding table_text if_accepted record_text group_text group_most
text-fits t ok small =
    let r = record_of t in
    let whole : length (gather (group_text false r) 0 group_count) ≤ sum_to group_count group_most =
    gather-most (group_text false r) group_most group_count
    (λ g h. gather-most (λ (n : ℕ). field_line false r g n) (line_most (kind_number g)) (field_count (kind_number g)) (λ n l. line-short t ok small g n h l)) in
    rw ok (omega (arith, whole, leb-true (sum_to group_count group_most) longest_text all_most))
