-- No line of a difference has more than 4,096 bytes: a string has at most 255, each written as four at most, and a line has
-- three strings; every other value and every name is short. (The bounds of words are wide: one has at most as many bytes as the
-- list that it is in, and one more.)
--     pieces-total        the pieces of a text, with a separator each, have one byte more than it
--     word-most           a word of a list
--     set-most            a set of words
--     name-most           the name of a field
--     value-most          the value of a field
--     line-fits           a line
--     reading-short       every difference of two tables is read as a short one
--     told-fits           so the line of each has no more
-- Assumes nothing.
use mathlib.Core.Path.{◌≡◌, refl}
use mathlib.Core.List.{List, [], ◌∷◌, ◌++◌}
use mathlib.Core.Bool.{Bool, true, false, cond, ◌&&◌}
use Prim.Native.Char.{code}
use Prim.Native.Nat.{ℕ, zero, suc, ◌+◌, ◌*◌, ◌-◌, ◌^◌, ◌/◌, ◌%◌, ◌≤◌, ◌<◌}
use native.Mathlib.Decide.{dec_lt}
use native.Mathlib.Omega.{arith}
use borrow.Author.Tests.{leb-true}
use lib.ListN.{length, get_or, take, drop, length-append, length-take, get_or-eq_default}
use lib.Dec.{eqb, leb, ltb}
use Rattle.octets.specs.Counting.{tabulate, gather}
use Rattle.octets.specs.Octets.{byte, word16, word64, part, bytes_at}
use Rattle.octets.proofs.TestLaws.{and_both}
use Rattle.octets.proofs.ReadLaws.{part-byte, length-bytes_past, bytes-at}
use Rattle.text.specs.Split.{each, is, index_of, longer, pieces_by, join}
use Rattle.text.specs.Words.{words_of, word_at, chosen, set_text, word_set_text}
use Rattle.notation.specs.Number.{digits, padded}
use Rattle.notation.specs.Pairs.{pairs_text}
use Rattle.notation.specs.Escape.{string_text}
use Rattle.notation.specs.Mac.{mac_text}
use Rattle.notation.specs.Pci.{pci_text}
use Rattle.notation.proofs.NumberLaws.{digits-length, decimal-length}
use Rattle.notation.proofs.AddressLaws.{text-length as address-length}
use Rattle.notation.proofs.EscapeLaws.{text-length as string-length}
use Rattle.record_text.specs.Fields.{Group, oem, groups, group_names, first_indexed, group_of, field_of, index_text, dotted, name_of}
use Rattle.record_text.specs.Value.{modes, chap_types, value_text}
use Rattle.record_text.specs.Promises.{Bytes}
use Rattle.record_text.specs.declared.fields.FieldName.{FieldName}
use Rattle.record_text.specs.declared.fields.Notation.{Notation}
use Rattle.record_text.specs.declared.fields.Notation.TheVariants.{Oem, Mode, Flags, Number, Port, Address, Mac, Pci, Chap, Text}
use Rattle.record_text.proofs.ValueLaws.{each_at}
use Rattle.ibft_compare.specs.declared.difference.Difference.{Difference}
use Rattle.ibft_compare.specs.declared.difference.Difference.TheVariants.{Nothing, OemId, OemTableId, ControlFlags, Presence, Field, Entry}
use Rattle.ibft_compare.specs.declared.difference.Stretch.{Stretch}
use Rattle.ibft_compare.specs.declared.difference.DifferenceReading.{DifferenceReading}
use Rattle.ibft_compare.specs.Compare.{difference_of}
use Rattle.ibft_compare.proofs.SizeLaws.{index_named, Short, difference-short}
use Rattle.text.specs.Put.{ascii}
use Rattle.difference_text.specs.DifferenceText.{bar, hidden_words, oem_id, oem_table_id, control_flags, structure, name_text, hidden_name}
use Rattle.difference_text.specs.DifferenceText.{bytes_in, is_absent, is_hidden, value_of, field_at, with_value, both_values, only_in}
use Rattle.difference_text.specs.DifferenceText.{shown_text, field_line, presence_line, held_line, differs_line, entry_line, line_of}
use Rattle.difference_text.specs.DifferenceText.{difference_text}

-- ---- words

-- the bytes of all pieces, and a separator behind each
unfoldable total : List (List ℕ) → ℕ
total [] = 0
total (l ∷ ls) = length l + suc (total ls)

longer-total : (b n : ℕ) (ls : List (List ℕ)) → total ls ≡ suc n → total (longer b ls) ≡ suc (suc n)
unfolding total
longer-total b n [] e = absurd (omega arith)
longer-total b n (l ∷ ls) e = omega arith

pieces-total : (p : ℕ → Bool) (t : List ℕ) → total (pieces_by p t) ≡ suc (length t)
unfolding total pieces_by
pieces-total p [] = refl
pieces-total p (b ∷ t) = go (p b) (pieces-total p t)
  where
    go : (c : Bool) → total (pieces_by p t) ≡ suc (length t)
        → total (cond c ([] ∷ pieces_by p t) (longer b (pieces_by p t))) ≡ suc (suc (length t))
    go true e = omega arith
    go false e = longer-total b (length t) (pieces_by p t) e

piece-most : (ls : List (List ℕ)) (n : ℕ) → length (get_or ls n []) ≤ total ls
unfolding total
piece-most [] n = omega arith
piece-most (l ∷ ls) zero = omega arith
piece-most (l ∷ ls) (suc n) = omega (arith, piece-most ls n)

word-most : (list : List ℕ) (n : ℕ) → length (word_at list n) ≤ suc (length list)
word-most list n = omega (arith, piece-most (words_of list) n, pieces-total (is 32) list)

chosen-most : (ls : List (List ℕ)) (v : ℕ) → total (chosen ls v) ≤ total ls
unfolding total chosen
chosen-most [] v = omega arith
chosen-most (l ∷ ls) v = go (eqb (v % 2) 1) (chosen-most ls (v / 2))
  where
    go : (b : Bool) → total (chosen ls (v / 2)) ≤ total ls
        → total (cond b (l ∷ chosen ls (v / 2)) (chosen ls (v / 2))) ≤ length l + suc (total ls)
    go true h = omega arith
    go false h = omega arith

join-most : (sep : ℕ) (ls : List (List ℕ)) → length (join sep ls) ≤ total ls
unfolding total join
join-most sep [] = omega arith
join-most sep (x ∷ []) = omega arith
join-most sep (x ∷ (y ∷ ys)) = omega (arith, length-append x (sep ∷ join sep (y ∷ ys)), join-most sep (y ∷ ys))

text-most : (ls : List (List ℕ)) → length (set_text ls) ≤ 4 + total ls
unfolding set_text tabulate total
text-most [] = omega arith
text-most (l ∷ ls) = omega (arith, join-most 32 (l ∷ ls))

set-most : (list : List ℕ) (v : ℕ) → length (word_set_text list v) ≤ 4 + suc (length list)
unfolding word_set_text
set-most list v =
    omega (arith, text-most (chosen (words_of list) v), chosen-most (words_of list) v, pieces-total (is 32) list)

-- ---- names: a group's, at most three digits, a dot, a field's own

short_lists : Group → Bool
short_lists group = leb (length group.names) 86 && leb (length group.flags) 39

lists-short : each short_lists groups ≡ true
unfolding each tabulate short_lists
lists-short = refl

group-short : (kind : ℕ) → (length (group_of kind).names ≤ 86) × (length (group_of kind).flags ≤ 39)
unfolding group_of short_lists each tabulate
group-short kind =
    let both = and_both (leb (length (group_of kind).names) 86) _ (each_at short_lists groups kind oem lists-short refl) in
    (leb-true (length (group_of kind).names) 86 both.0, leb-true (length (group_of kind).flags) 39 both.1)

dotted-most : (w : List ℕ) → length (dotted w) ≤ suc (length w)
dotted-most [] = omega arith
dotted-most (b ∷ w) = omega arith

index-most : (kind index : ℕ) → index < 2 ^ 8 → length (index_text kind index) ≤ 3
unfolding index_text
index-most kind index small = go (ltb kind first_indexed)
  where
    go : (b : Bool) → length (cond b [] (digits 10 index)) ≤ 3
    go true = omega arith
    go false = decimal-length index (omega arith)

group-most : (kind : ℕ) → length (word_at group_names kind) ≤ 33
unfolding tabulate
group-most kind = omega (arith, word-most group_names kind)

abbrev name_most : ℕ
name_most = 33 + (3 + (1 + 87))

pub name-most : (f : FieldName) → f.index < 2 ^ 8 → length (name_text f) ≤ name_most
unfolding name_of
name-most f small =
    let own = word_at (group_of f.kind).names f.field in
    omega (
      arith,
      length-append (word_at group_names f.kind) (index_text f.kind f.index ++ dotted own),
      length-append (index_text f.kind f.index) (dotted own),
      group-most f.kind,
      index-most f.kind f.index small,
      dotted-most own,
      word-most (group_of f.kind).names f.field,
      (group-short f.kind).0,
    )

-- ---- values: a byte of a string is written as four at most, a string of none as two; every other value has at most 44

abbrev value_most : ℕ
value_most = 4 * 255 + 2

number-most : (bytes : List ℕ) → Bytes bytes → length (digits 10 (word64 bytes 0)) ≤ 20
number-most bytes small =
    digits-length 10 (omega arith) 19 (word64 bytes 0)
    (omega (arith, small 0, small 1, small 2, small 3, small 4, small 5, small 6, small 7))

sixteen-small : (bytes : List ℕ) → Bytes bytes → Bytes (bytes_at bytes 0 16)
sixteen-small bytes small j =
    elim (dec_lt j 16) [
      | yes h ↦ omega (arith, bytes-at bytes 0 16 j h, small (0 + j))
      | no h ↦ omega (arith, get_or-eq_default (bytes_at bytes 0 16) 0 {n = j} (omega (arith, length-bytes_past bytes 0 0 16)))
    ]

mac-length : (bytes : List ℕ) → length (mac_text bytes) ≡ 17
unfolding mac_text pairs_text gather padded
mac-length bytes = refl

pci-length : (w : ℕ) → length (pci_text w) ≡ 7
unfolding pci_text padded
pci-length w = refl

text-fits : (kind : ℕ) (notation : Notation) (bytes : List ℕ) → Bytes bytes → length bytes ≤ 255
    → length (value_text (group_of kind).flags notation bytes) ≤ value_most
unfolding value_text tabulate
text-fits kind Oem bytes small short =
    omega (arith, string-length (take (index_of 0 bytes) bytes), length-take (index_of 0 bytes) bytes)
text-fits kind Mode bytes small short = omega (arith, word-most modes (byte bytes 0))
text-fits kind Flags bytes small short = omega (arith, set-most (group_of kind).flags (byte bytes 0), (group-short kind).1)
text-fits kind Number bytes small short = omega (arith, number-most bytes small)
text-fits kind Port bytes small short = omega (arith, number-most bytes small)
text-fits kind Address bytes small short =
    omega (arith, address-length (bytes_at bytes 0 16) (length-bytes_past bytes 0 0 16) (sixteen-small bytes small))
text-fits kind Mac bytes small short = omega (arith, mac-length bytes)
text-fits kind Pci bytes small short = omega (arith, pci-length (word16 bytes 0))
text-fits kind Chap bytes small short = omega (arith, word-most chap_types (byte bytes 0))
text-fits kind Text bytes small short = omega (arith, string-length bytes)

-- .. of a stretch of a table
stretch-most : (t : List ℕ) (s : Stretch) → s.length ≤ 255 → length (bytes_in t s) ≤ 255
unfolding part
stretch-most t s short = omega (arith, length-take s.length (drop s.start t))

pub value-most : (f : FieldName) (t : List ℕ) (s : Stretch) → Bytes t → s.length ≤ 255
    → length (value_of f (bytes_in t s)) ≤ value_most
value-most f t s small short =
    text-fits f.kind (field_of f.kind f.field).notation (bytes_in t s)
    (λ i. part-byte t s.start s.length i small) (stretch-most t s short)

-- ---- a line

only-most : (right : Bool) → length (only_in right) ≤ 15
unfolding only_in tabulate
only-most true = omega arith
only-most false = omega arith

shown-most : (n : ℕ) (t : List ℕ) (s : Stretch) → n < 2 ^ 32 → s.length ≤ 255
    → length (shown_text n (bytes_in t s)) ≤ 24 + value_most
unfolding shown_text tabulate
shown-most n t s small short =
    let text = string_text (bytes_in t s) in
    omega (
      arith,
      length-append (digits 10 n) (code ":" ∷ (code " " ∷ (text ++ (10 ∷ [])))),
      length-append text (10 ∷ []),
      digits-length 10 (omega arith) 9 n (omega arith),
      string-length (bytes_in t s),
      stretch-most t s short,
    )

module _
    (left right : List ℕ) (d : DifferenceReading) (l : Bytes left) (r : Bytes right) (short : Short d)
    (f : FieldName) (small : f.index < 2 ^ 8)
  where
    with-most : (t : List ℕ) (s : Stretch) → Bytes t → s.length ≤ 255
        → length (with_value f (bytes_in t s)) ≤ name_most + (1 + value_most)
    unfolding with_value
    with-most t s b h =
        omega (arith, length-append (name_text f) (code " " ∷ value_of f (bytes_in t s)), name-most f small, value-most f t s b h)

    both_most : length (both_values f (bytes_in left d.left) (bytes_in right d.right)) ≤ name_most + (4 + 2 * value_most)
    unfolding both_values tabulate
    both_most =
        omega (
          arith,
          length-append (with_value f (bytes_in left d.left)) (bar ++ value_of f (bytes_in right d.right)),
          with-most left d.left l short.left,
          value-most f right d.right r short.right,
        )

    field-most : length (field_line f left right d) ≤ 4096
    unfolding field_line
    field-most =
        omega (arith, length-append (both_values f (bytes_in left d.left) (bytes_in right d.right)) (10 ∷ []), both_most)

    hidden-most : length (hidden_name f) ≤ 2 + length (name_text f)
    unfolding hidden_name tabulate
    hidden-most = omega (arith, length-append (ascii "# ") (name_text f))

    held-most : (secret : Bool) (t : List ℕ) (s : Stretch) (side : Bool) → Bytes t → s.length ≤ 255
        → length (held_line secret f (bytes_in t s) side) ≤ 4096
    unfolding held_line
    held-most true t s side b h = omega (arith, length-append (hidden_name f) (only_in side), hidden-most, name-most f small, only-most side)
    held-most false t s side b h =
        omega (arith, length-append (with_value f (bytes_in t s)) (only_in side), with-most t s b h, only-most side)

    differs-most : (secret : Bool) → length (differs_line secret f left right d) ≤ 4096
    unfolding differs_line tabulate
    differs-most true = omega (arith, length-append (hidden_name f) hidden_words, hidden-most, name-most f small)
    differs-most false =
        let n = d.shown.start - d.left.start in
        let low : n < 2 ^ 32 = omega (arith, short.start) in
        omega (
          arith,
          length-append (both_values f (bytes_in left d.left) (bytes_in right d.right))
              (shown_text n (bytes_in left d.shown)),
          both_most,
          shown-most n left d.shown low short.shown,
        )

    entry-most : (secret : Bool) → length (entry_line secret f left right d) ≤ 4096
    unfolding entry_line
    entry-most secret = go (is_absent d.right) (is_absent d.left)
      where
        go : (a b : Bool)
            → length (cond a (held_line secret f (bytes_in left d.left) false)
            (cond b (held_line secret f (bytes_in right d.right) true) (differs_line secret f left right d))) ≤ 4096
        go true b = held-most secret left d.left false l short.left
        go false true = held-most secret right d.right true r short.right
        go false false = differs-most secret

presence-most : (id index : ℕ) (d : DifferenceReading) → index < 2 ^ 8 → length (presence_line id index d) ≤ 4096
unfolding presence_line
presence-most id index d small =
    omega (
      arith,
      length-append (name_text (structure id index)) (only_in (is_absent d.left)),
      name-most (structure id index) small,
      only-most (is_absent d.left),
    )

pub line-fits : (hide : Bool) (left right : List ℕ) (d : DifferenceReading) → Bytes left → Bytes right → Short d
    → length (difference_text hide left right d) ≤ 4096
unfolding difference_text line_of
line-fits hide left right d l r short = go d.difference short.index
  where
    go : (x : Difference) → index_named x < 2 ^ 8 → length (line_of hide left right d x) ≤ 4096
    go Nothing small = omega arith
    go OemId small = field-most left right d l r short oem_id small
    go OemTableId small = field-most left right d l r short oem_table_id small
    go ControlFlags small = field-most left right d l r short control_flags small
    go (Presence id index) small = presence-most id index d small
    go (Field id index at) small = field-most left right d l r short (field_at id index at) small
    go (Entry id index at) small =
        entry-most left right d l r short (field_at id index at) small (is_hidden hide (field_at id index at))

-- ---- the differences of two tables

pub reading-short : (left right : List ℕ) (k : ℕ) → Bytes left → Bytes right → Short (difference_of left right k)
reading-short left right k l r = difference-short left right k l

pub told-fits : (hide : Bool) (left right : List ℕ) (k : ℕ) → Bytes left → Bytes right
    → length (difference_text hide left right (difference_of left right k)) ≤ 4096
told-fits hide left right k l r = line-fits hide left right (difference_of left right k) l r (reading-short left right k l r)
