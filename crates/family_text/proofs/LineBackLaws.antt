-- A line that is told is read as what it tells: its name is the field's, and its value is left whole, since no blank stands at
-- the value's ends and no line feed in it.
--     name-facts              a field's name: it names the field, and a line may start with it
--     value-facts             the text of a value
--     told_with, told_line    the line of a field: it has no line feed but its last byte
--     told-family             it is of the family of its name
--     told-read               it gives the field its bytes
-- Assumes nothing.
use Rattle.std.specs.Prelude.{Some}
use mathlib.Core.Path.{◌≡◌, refl, sym, ap, ◌∙◌}
use mathlib.Core.List.{List, [], ◌∷◌, ◌++◌, append_assoc}
use mathlib.Core.Bool.{Bool, true, false, cond, not, ◌&&◌}
use Prim.Native.Char.{code}
use Prim.Native.Nat.{ℕ, ◌<◌}
use native.Mathlib.Omega.{arith}
use borrow.Author.Tests.{eqb-true, ltb-true, lt-ltb, ne_eqb, not-true}
use lib.ListN.{length, take, length-append, get_or-append}
use lib.Dec.{eqb, ltb}
use Rattle.octets.specs.Counting.{first, any}
use Rattle.octets.specs.Octets.{byte, word16, bytes_at}
use Rattle.octets.proofs.CountingLaws.{each_holds}
use Rattle.octets.proofs.TestLaws.{and_both, or_no}
use Rattle.text.specs.Split.{is_blank, is, index_of, each, trim, lacks}
use Rattle.text.specs.Words.{word_at, word_number}
use Rattle.text.specs.Computing.{computing as of-text}
use Rattle.text.proofs.SplitLaws.{field-line, value_line, trim-line}
use Rattle.notation.proofs.PieceLaws.{lacks-append}
use Rattle.notation.proofs.LineLaws.{Whole, string-whole, number-whole, pairs-whole, address-whole}
use Rattle.family_text.specs.Fields.{sbft, Fields, abft_fields, sbft_fields, fields_of, field_count, field_of, name_of, field_named}
use Rattle.family_text.specs.Value.{field_bytes, value_text}
use Rattle.family_text.specs.Family.{says_nothing, family_named, line_family}
use Rattle.family_text.specs.Enter.{Draft, with_value, step_of, value_step, field_step, line_step}
use Rattle.family_text.specs.Tell.{line_with}
use Rattle.family_text.specs.declared.fields.Notation.{Notation}
use Rattle.family_text.specs.declared.fields.Notation.TheVariants.{Oem, Number, Pairs, Address}

-- ---- names

-- a name that is read as its number: it has a byte, no blank, no line feed, and does not start with #
good_name : Fields → ℕ → Bool
good_name fields n =
    let name = word_at fields.names n in
    ltb 0 (length name)
    && (lacks is_blank name && (lacks (is 10) name && (not (eqb (byte name 0) (code "#")) && eqb (word_number fields.names name) n)))

record NameFacts (family n : ℕ) : Type 0 where
  some : 0 < length (name_of family n)
  whole : lacks is_blank (name_of family n) ≡ true
  line : lacks (is 10) (name_of family n) ≡ true
  plain : eqb (byte (name_of family n) 0) (code "#") ≡ false
  named : field_named family (name_of family n) ≡ n

name-good : (family n : ℕ) → n < field_count family → good_name (fields_of family) n ≡ true
unfolding field_count fields_of of-text any first good_name
name-good family n h = go (eqb family sbft) h
  where
    go : (b : Bool) → n < length (cond b sbft_fields abft_fields).layout → good_name (cond b sbft_fields abft_fields) n ≡ true
    go true l = each_holds 9 (good_name sbft_fields) refl n l
    go false l = each_holds 5 (good_name abft_fields) refl n l

name-facts : (family n : ℕ) → n < field_count family → NameFacts family n
unfolding good_name name_of field_named
name-facts family n h =
    let names = (fields_of family).names in
    let name = word_at names n in
    let a = and_both (ltb 0 (length name)) _ (name-good family n h) in
    let b = and_both (lacks is_blank name) _ a.1 in
    let c = and_both (lacks (is 10) name) _ b.1 in
    let d = and_both (not (eqb (byte name 0) (code "#"))) _ c.1 in
    record {
      some = ltb-true 0 (length name) a.0;
      whole = b.0;
      line = c.0;
      plain = not-true _ d.0;
      named = eqb-true (word_number names name) n d.1;
    }

-- ---- the text of a value

value-facts : (notation : Notation) (width : ℕ) (bytes : List ℕ) → Whole (value_text notation width bytes)
unfolding value_text
value-facts Oem width bytes = string-whole (take (index_of 0 bytes) bytes)
value-facts Number width bytes = number-whole (word16 bytes 0)
value-facts Pairs width bytes = pairs-whole width bytes
value-facts Address width bytes = address-whole (bytes_at bytes 0 16)

-- ---- a line that is told, entered

blank : is_blank (code " ") ≡ true
unfolding is_blank
blank = refl

module _ (family n : ℕ) (low : n < field_count family) (bytes : List ℕ) where
  abbrev text : List ℕ
  text = value_text (field_of family n).notation (field_of family n).width bytes

  abbrev own : List ℕ
  own = name_of family n

  abbrev pub line : List ℕ
  line = own ++ (code " " ∷ text)

  name : NameFacts family n
  name = name-facts family n low

  value : Whole text
  value = value-facts (field_of family n).notation (field_of family n).width bytes

  -- the line as it is told
  pub told_with : line_with family n (field_of family n) bytes ≡ line ++ (10 ∷ [])
  unfolding line_with
  told_with = sym (append_assoc own (code " " ∷ text) (10 ∷ []))

  pub told_line : lacks (is 10) line ≡ true
  unfolding each
  told_line = lacks-append (is 10) own (code " " ∷ text) name.line value.line

  line-whole : trim line ≡ line
  line-whole = trim-line own (code " ") text name.whole blank name.some value.some value.ends

  line-says : says_nothing line ≡ false
  unfolding says_nothing
  line-says =
      let front : byte line 0 ≡ byte own 0 = get_or-append own (code " " ∷ text) 0 0 name.some in
      or_no (eqb (length line) 0) (eqb (byte line 0) (code "#"))
      (ne_eqb (length line) 0 (omega (arith, name.some, length-append own (code " " ∷ text))))
      (ap (λ (b : ℕ). eqb b (code "#")) front ∙ name.plain)

  pub told-family : line_family line ≡ family_named own
  unfolding line_family
  told-family = rw (line-whole, line-says, field-line own (code " ") text name.whole blank)

  pub told-read : (d : Draft) → (byte d.given n ≡ 1 → ⊥) → field_bytes family n text ≡ Some bytes
      → line_step family d line ≡ step_of 0 n (with_value family d n bytes)
  unfolding line_step field_step value_step
  told-read d first-time back =
      let rest = value_line own (code " ") text name.whole blank ∙ value.whole in
      rw (
        line-whole,
        line-says,
        field-line own (code " ") text name.whole blank,
        rest,
        name.named,
        lt-ltb n (field_count family) low,
        ne_eqb (byte d.given n) 1 first-time,
        back,
      )
