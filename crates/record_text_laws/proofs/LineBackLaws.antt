-- A line that is told is read as what it tells: its name is the field's, and its value is left whole, since no blank stands at
-- the value's ends and no line feed in it.
--     slot-alone, index-small, slot-index, group-indexed      the Index of a group
--     told_with, told_line    the line of a field: it has no line feed but its last byte
--     told-line-found         it names that field
--     told-line-value         a field that is no string is given the table's bytes
--     told-line-string        so is a string
-- Assumes nothing.
use Rattle.std.specs.Prelude.{Some}
use mathlib.Core.Path.{◌≡◌, refl, sym, ap, ◌∙◌}
use mathlib.Core.List.{List, [], ◌∷◌, ◌++◌, append_assoc}
use mathlib.Core.Bool.{Bool, true, false, cond, not, ◌&&◌, ◌||◌}
use Prim.Native.Char.{code}
use Prim.Native.Nat.{ℕ, ◌+◌, ◌^◌, ◌/◌, ◌%◌, ◌≤◌, ◌<◌}
use native.Mathlib.Decide.{dec_lt}
use native.Mathlib.Omega.{arith}
use borrow.Author.Tests.{eqb-true, ltb-true, lt-ltb, le-ltb, le-leb, ne_eqb, not-true, not-false}
use lib.ListN.{length, get_or, take, length-append, get_or-append}
use lib.Dec.{eqb, ltb}
use Rattle.octets.specs.Counting.{first, any}
use Rattle.octets.specs.Octets.{byte, word16, word64, bytes_at}
use Rattle.octets.proofs.CountingLaws.{any_none, each_holds}
use Rattle.octets.proofs.TestLaws.{and_both, and-other, or_no}
use Rattle.text.specs.Split.{is_blank, is, index_of, same, each, trim_end, trim, lacks}
use Rattle.text.specs.Words.{word_at, word_count, word_set_text, good_list}
use Rattle.text.specs.Computing.{computing as of-text}
use Rattle.text.proofs.SplitLaws.{same-equal, field-line, value_line, trim-line}
use Rattle.notation.specs.Number.{digit_byte, padded}
use Rattle.notation.specs.Mac.{mac_text}
use Rattle.notation.specs.Pci.{device_text, pci_text}
use Rattle.notation.proofs.PieceLaws.{lacks-append}
use Rattle.notation.proofs.LineLaws.{Whole, whole-lacks, string-whole, pair-lacks, number-whole, pairs-whole, address-whole, blank-other, feed-other}
use Rattle.notation.proofs.NumberLaws.{padded-length}
use Rattle.ibft_layout.specs.Layout.{slot_count, named_count, kind_of, indices, index_of as named_index}
use Rattle.ibft_table.specs.Table.{starts_of, start_in, present_in, index_in}
use Rattle.ibft_table.specs.Check.{check_of}
use Rattle.ibft_table.specs.Record.{record_of, content_in, content_of}
use Rattle.table_header.specs.Verdict.{Accepted}
use Rattle.ibft_table_laws.proofs.RecordLaws.{index_listed}
use Rattle.record_text.specs.Fields.{first_structure, first_indexed, kind_count, group_of, is_text, field_of, field_count, name_of}
use Rattle.record_text.specs.Value.{modes, chap_types, value_text, field_text}
use Rattle.record_text.specs.Enter.{Draft, group_count, given_at, with_value, with_string, capacity, step_of, plain_step, string_step, value_step}
use Rattle.record_text.specs.Enter.{has_slot, field_step, says_nothing, line_found, line_step}
use Rattle.record_text.specs.Tell.{slot_in, kind_number, index_held, record_field, line_with}
use Rattle.record_text.specs.Promises.{Bytes}
use Rattle.record_text.specs.declared.fields.FieldName.{FieldName}
use Rattle.std.specs.Prelude.{Some}
use Rattle.record_text.specs.declared.fields.Notation.{Notation}
use Rattle.record_text.specs.declared.fields.Notation.TheVariants.{Oem, Mode, Flags, Number, Port, Address, Mac, Pci, Chap, Text}
use Rattle.record_text_laws.proofs.Entered.{name_in}
use Rattle.record_text_laws.proofs.NameBackLaws.{Indexed, NameFacts, name-facts}
use Rattle.record_text.proofs.ValueLaws.{each_at}
use Rattle.record_text_laws.proofs.ValueBackLaws.{Said}
use Rattle.record_text_laws.proofs.ToldBackLaws.{group-known, text-is, told-said, told-value, told-string}

-- ---- the Index of a group

-- a kind without an Index has one slot, the first
pub slot-alone : (k : ℕ) → k < slot_count → (kind_of k).id < first_indexed → k ≡ 0
unfolding any first kind_of
slot-alone k h low =
    let none = any_none slot_count (λ (k : ℕ). ltb (kind_of k).id first_indexed && not (eqb k 0)) refl k h in
    eqb-true k 0 (not-false (eqb k 0) (and-other (ltb (kind_of k).id first_indexed) _ none (lt-ltb (kind_of k).id first_indexed low)))

pub index-small : (starts t : List ℕ) → Bytes t → (k : ℕ) → index_in starts t k < 256
unfolding index_in named_index each
index-small starts t small k = go (ltb k named_count) (present_in starts k)
  where
    go : (a b : Bool) → cond a (named_index k) (cond b (byte t (start_in starts k + 4)) 0) < 256
    go true b = ltb-true (named_index k) 256 (each_at (λ (i : ℕ). ltb i 256) indices k 0 refl refl)
    go false true = small (start_in starts k + 4)
    go false false = omega arith

pub slot-index : (t : List ℕ) (k : ℕ) → k < slot_count → get_or (record_of t).indices k 0 ≡ index_in (starts_of t) t k
unfolding record_of content_of content_in
slot-index t k h = index_listed (content_of t) k h

pub group-indexed : (t : List ℕ) → Bytes t → (g : ℕ) → g < group_count → Indexed (kind_number g) (index_held (record_of t) g)
unfolding kind_number index_held index_in named_index
group-indexed t small g h =
    elim (dec_lt g first_structure) [
      | yes l ↦ rw (lt-ltb g first_structure l) (record { byte-sized = omega arith; absent = λ k. refl })
      | no l ↦
          let below : slot_in g < slot_count = omega arith in
          let held = slot-index t (slot_in g) below in
          rw (le-ltb g first_structure (omega arith))
          (record {
            byte-sized = rw held (index-small (starts_of t) t small (slot_in g));
            absent = λ low. held ∙ ap (index_in (starts_of t) t) (slot-alone (slot_in g) below low);
          })
    ]

-- ---- the text of a value: not empty, no blank at its ends, no line feed

-- a text that passes the tests
good_text : List ℕ → Bool
good_text w = ltb 0 (length w) && (same (trim_end w) w && (same (trim w) w && lacks (is 10) w))

of_test : (w : List ℕ) → good_text w ≡ true → Whole w
unfolding good_text
of_test w e =
    let a = and_both (ltb 0 (length w)) _ e in
    let b = and_both (same (trim_end w) w) _ a.1 in
    let c = and_both (same (trim w) w) _ b.1 in
    record { some = ltb-true 0 (length w) a.0; ends = same-equal (trim_end w) w b.0; whole = same-equal (trim w) w c.0; line = c.1 }

mode-facts : (n : ℕ) → n < word_count modes → Whole (word_at modes n)
unfolding of-text any first good_text
mode-facts n h = of_test (word_at modes n) (each_holds 2 (λ (k : ℕ). good_text (word_at modes k)) refl n h)

chap-facts : (n : ℕ) → n < word_count chap_types → Whole (word_at chap_types n)
unfolding of-text any first good_text
chap-facts n h = of_test (word_at chap_types n) (each_holds 3 (λ (k : ℕ). good_text (word_at chap_types k)) refl n h)

-- sets of words, kind by kind; kinds that are no structure's have no flags
good_flags : ℕ → Bool
good_flags kind =
    not (good_list (group_of kind).flags)
    || not (any (2 ^ word_count (group_of kind).flags) (λ (v : ℕ). not (good_text (word_set_text (group_of kind).flags v))))

flags-facts : (kind : ℕ) → kind < kind_count → good_list (group_of kind).flags ≡ true → (v : ℕ) → v < 2 ^ word_count (group_of kind).flags
    → Whole (word_set_text (group_of kind).flags v)
unfolding of-text any first good_text group_of good_flags
flags-facts kind h good v l =
    let all = rw good at (each_holds kind_count good_flags refl kind h) in
    of_test _ (each_holds (2 ^ word_count (group_of kind).flags) (λ (v : ℕ). good_text (word_set_text (group_of kind).flags v)) (not-true _ all) v l)

-- a PCI address has the digits of its bytes, a colon and a dot
pci-lacks : (p : ℕ → Bool) → any 16 (λ (d : ℕ). p (digit_byte d)) ≡ false → p (code ":") ≡ false → p (code ".") ≡ false → (w : ℕ) → lacks p (pci_text w) ≡ true
unfolding pci_text each
pci-lacks p other colon dot w =
    let last : p (digit_byte (w % 8)) ≡ false = any_none 16 (λ (d : ℕ). p (digit_byte d)) other (w % 8) (omega arith) in
    lacks-append p (padded 2 16 (w / 256)) _ (pair-lacks p other (w / 256))
    (rw colon (lacks-append p (padded 2 16 (w / 8 % 32)) _ (pair-lacks p other (w / 8 % 32)) (rw (dot, last))))

pci-some : (w : ℕ) → 0 < length (pci_text w)
unfolding pci_text
pci-some w = omega (arith, length-append (padded 2 16 (w / 256)) (device_text w), padded-length 16 2 (w / 256))

value-facts : (kind : ℕ) → kind < kind_count → (notation : Notation) (bytes : List ℕ) → Said (group_of kind).flags notation bytes
    → Whole (value_text (group_of kind).flags notation bytes)
unfolding value_text mac_text is_blank
value-facts kind h Oem bytes s = string-whole (take (index_of 0 bytes) bytes)
value-facts kind h Mode bytes s = mode-facts (byte bytes 0) s
value-facts kind h Flags bytes s = flags-facts kind h s.0 (byte bytes 0) s.1
value-facts kind h Number bytes s = number-whole (word64 bytes 0)
value-facts kind h Port bytes s = number-whole (word64 bytes 0)
value-facts kind h Address bytes s = address-whole (bytes_at bytes 0 16)
value-facts kind h Mac bytes s = pairs-whole 6 bytes
value-facts kind h Pci bytes s =
    let w = word16 bytes 0 in
    whole-lacks (pci_text w) (pci-some w) (pci-lacks is_blank blank-other refl refl w) (pci-lacks (is 10) feed-other refl refl w)
value-facts kind h Chap bytes s = chap-facts (byte bytes 0) s
value-facts kind h Text bytes s = absurd s

-- ---- a line that is told, entered

blank : is_blank (code " ") ≡ true
unfolding is_blank
blank = refl

module _ (t : List ℕ) (ok : check_of t ≡ Accepted) (small : Bytes t) (g n : ℕ) (group : g < group_count) (number : n < field_count (kind_number g))
    (bytes : List ℕ) (told : record_field (record_of t) g n ≡ Some bytes) where
  abbrev kind : ℕ
  kind = kind_number g

  abbrev index : ℕ
  index = index_held (record_of t) g

  abbrev text : List ℕ
  text = field_text kind n bytes

  abbrev own : List ℕ
  own = name_of kind index n

  abbrev pub line : List ℕ
  line = own ++ (code " " ∷ text)

  name : NameFacts kind index n
  name = name-facts kind index n (group-known g) (group-indexed t small g group) number

  value : Whole text
  value = go (is_text (field_of kind n).notation) refl
    where
      go : (b : Bool) → is_text (field_of kind n).notation ≡ b → Whole text
      go true e = rw (text-is (group_of kind).flags (field_of kind n).notation bytes e) (string-whole bytes)
      go false e = value-facts kind (group-known g) (field_of kind n).notation bytes (told-said t ok small g n group number bytes told e)

  -- the line as it is told
  pub told_with : line_with kind index n bytes ≡ line ++ (10 ∷ [])
  unfolding line_with
  told_with = sym (append_assoc own (code " " ∷ text) (10 ∷ []))

  pub told_line : lacks (is 10) line ≡ true
  unfolding each
  told_line = lacks-append (is 10) own (code " " ∷ text) name.line value.line

  line-whole : trim line ≡ line
  line-whole = trim-line own (code " ") text name.whole blank name.some value.some value.ends

  line-says : says_nothing line ≡ false
  unfolding says_nothing
  line-says =
      let front : byte line 0 ≡ byte own 0 = get_or-append own (code " " ∷ text) 0 0 name.some in
      or_no (eqb (length line) 0) (eqb (byte line 0) (code "#"))
      (ne_eqb (length line) 0 (omega (arith, name.some, length-append own (code " " ∷ text))))
      (ap (λ (b : ℕ). eqb b (code "#")) front ∙ name.plain)

  pub told-line-found : line_found line ≡ Some (name_in (record_of t) g n)
  unfolding line_found
  told-line-found =
      rw (line-whole, line-says, field-line own (code " ") text name.whole blank, name.named)

  module _ (d : Draft) where
    told-line-read : line_step d line ≡ field_step d text (Some (name_in (record_of t) g n))
    unfolding line_step
    told-line-read =
        let rest = value_line own (code " ") text name.whole blank ∙ value.whole in
        rw (told-line-found, line-whole, line-says, rest)

    abbrev f : FieldName
    f = name_in (record_of t) g n

    module _ (seat : has_slot d.marks f ≡ true) (first-time : byte d.given (given_at d f) ≡ 1 → ⊥) where
      pub told-line-value : is_text (field_of kind n).notation ≡ false → line_step d line ≡ step_of 0 f (with_value d f bytes)
      unfolding field_step value_step plain_step
      told-line-value plain =
          told-line-read
          ∙ rw (seat, ne_eqb (byte d.given (given_at d f)) 1 first-time, plain, told-value t ok small g n group number bytes told plain)

      pub told-line-string : is_text (field_of kind n).notation ≡ true → d.used + length bytes ≤ capacity d.strings
          → line_step d line ≡ step_of 0 f (with_string d f bytes)
      unfolding field_step value_step string_step
      told-line-string is-text room =
          told-line-read
          ∙ rw (
            seat,
            ne_eqb (byte d.given (given_at d f)) 1 first-time,
            is-text,
            told-string t ok small g n group number bytes told is-text,
            le-leb (d.used + length bytes) (capacity d.strings) room,
          )
