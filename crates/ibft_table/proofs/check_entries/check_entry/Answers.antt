-- `check_entry` meets its contract. Where the entry is present, after the k-th test has passed the verdict of all tests is that
-- of the tests behind it (`pass1` to `pass5`). Assumes nothing.
use Rattle.std.proofs.Common.{◌≡◌, ◌<◌, ◌≤◌, ◌+◌, ◌&&◌, ℕ, List, Bool, true, not, eqb, sym, ap, ap₂, ◌∙◌, arith, lt-ltb, le-ltb, le-leb, eq-eqb, ne_eqb}
use mathlib.Core.Bool.{and-false}
use borrow.Author.Tests.{lt-leb}
use Rattle.octets.specs.Octets.{byte, word16}
use Rattle.ibft_layout.specs.Layout.{owner_of, string_of}
use Rattle.ibft_layout.specs.Shapes.{string_shape, string_words_at}
use Rattle.ibft_layout.specs.declared.shape.StringShape.{StringShape}
use Rattle.ibft_layout.specs.declared.string_words.StringWords.{StringWords}
use Rattle.table_header.specs.Header.{length_of}
use Rattle.ibft_table.specs.Table.{start_in, present_in, heap_of, starts_of, field_in, size_in, offset_in, holds_in}
use Rattle.table_header.specs.Verdict.{Test, first_of}
use Rattle.ibft_table.specs.Check.{entry_tests}
use Rattle.table_header.proofs.VerdictLaws.{Passed}
use Rattle.ibft_table.proofs.CheckLaws.{differs-or, heap-after-control}
use Rattle.ibft_table.proofs.check_entries.check_entry.Goals as goal

module _ (t : List ℕ) (n : ℕ) where
  abbrev s : List ℕ
  s = starts_of t

  abbrev tests : List Test
  tests = entry_tests s t n

  -- what the calls answer, as the tests have it
  field-is : (start : ℕ) (string : StringShape) → start ≡ start_in s (owner_of n) → string ≡ string_shape (string_of n)
      → start + string.at ≡ field_in s n
  unfolding field_in
  field-is start string at is = rw (at, is)

  module _ (field : ℕ) (words : StringWords) (read : words ≡ string_words_at t field) (at : field ≡ field_in s n) where
    size-is : words.length ≡ size_in s t n
    unfolding size_in
    size-is = ap (λ (x : StringWords). x.length) read ∙ ap (word16 t) at

    offset-is : words.offset ≡ offset_in s t n
    unfolding offset_in
    offset-is = ap (λ (x : StringWords). x.offset) read ∙ ap (λ (f : ℕ). word16 t (f + 2)) at

  held-is : (start_in s (owner_of n) ≡ 0 → ⊥) → (size offset : ℕ) → size ≡ size_in s t n → offset ≡ offset_in s t n
      → (b : Bool) → b ≡ eqb size 0 && eqb offset 0 → holds_in s t n ≡ not b
  unfolding holds_in present_in
  held-is used size offset size_is offset_is b is =
      rw (ne_eqb (start_in s (owner_of n)) 0 used, ← size_is, ← offset_is, is) (differs-or (eqb size 0) (eqb offset 0))

  module _ (there : holds_in s t n ≡ true) where
    pass1 : heap_of t ≤ offset_in s t n → Passed tests 1
    unfolding first_of entry_tests
    pass1 above = rw (there, le-ltb (offset_in s t n) (heap_of t) above)

    pass2 : Passed tests 1 → offset_in s t n + size_in s t n ≤ length_of t → Passed tests 2
    unfolding first_of entry_tests
    pass2 before inside = before ∙ rw (there, le-ltb (length_of t) (offset_in s t n + size_in s t n) inside)

    -- no entry at or above the heap has offset 0
    pass3 : Passed tests 1 → offset_in s t n + size_in s t n ≤ length_of t → heap_of t ≤ offset_in s t n → Passed tests 3
    unfolding first_of entry_tests
    pass3 before inside above =
        pass2 before inside ∙ simp (there, ne_eqb (offset_in s t n) 0 (omega (arith, heap-after-control t)), and-false)

    pass4 : Passed tests 3 → offset_in s t n + size_in s t n < length_of t → Passed tests 4
    unfolding first_of entry_tests
    pass4 before inside = before ∙ rw (there, lt-leb (length_of t) (offset_in s t n + size_in s t n) inside)

    pass5 : Passed tests 4 → byte t (offset_in s t n + size_in s t n) ≡ 0 → Passed tests 5
    unfolding first_of entry_tests
    pass5 before ended = before ∙ rw (there, eq-eqb (byte t (offset_in s t n + size_in s t n)) 0 ended)

pub returns-then-start-eq0 : goal.returns-then-start-eq0
unfolding first_of entry_tests holds_in present_in
returns-then-start-eq0 c =
    let a = c.args in
    let start = c.entry_start-start.ensures in
    sym (rw (eq-eqb (start_in (starts_of a.table.t.now) (owner_of a.n)) 0 (omega arith)))

pub returns-then-missing : goal.returns-then-missing
unfolding first_of entry_tests
returns-then-missing c =
    let a = c.args in
    let t = a.table.t.now in
    let s = starts_of t in
    let start = c.entry_start-start.ensures in
    let used : start_in s (owner_of a.n) ≡ 0 → ⊥ = λ z. c.if-start-eq0.false (start ∙ z) in
    let field = field-is t a.n _ _ start c.string_of-string.ensures in
    let size = size-is t a.n _ _ c.read-words.ensures field in
    let offset = offset-is t a.n _ _ c.read-words.ensures field in
    let held = held-is t a.n used _ _ size offset _ c.missing.ensures in
    sym (rw (held ∙ ap not c.if-missing.true))

pub returns-then-offset-heap : goal.returns-then-offset-heap
unfolding first_of entry_tests
returns-then-offset-heap c =
    let a = c.args in
    let t = a.table.t.now in
    let s = starts_of t in
    let start = c.entry_start-start.ensures in
    let used : start_in s (owner_of a.n) ≡ 0 → ⊥ = λ z. c.if-start-eq0.false (start ∙ z) in
    let field = field-is t a.n _ _ start c.string_of-string.ensures in
    let size = size-is t a.n _ _ c.read-words.ensures field in
    let offset = offset-is t a.n _ _ c.read-words.ensures field in
    let held = held-is t a.n used _ _ size offset _ c.missing.ensures in
    let there = held ∙ ap not c.if-missing.false in
    rw field at c.refuse.ensures ∙ sym (rw (there, lt-ltb (offset_in s t a.n) (heap_of t) (omega (arith, offset))))

pub returns-then-table-end : goal.returns-then-table-end
unfolding first_of entry_tests
returns-then-table-end c =
    let a = c.args in
    let t = a.table.t.now in
    let s = starts_of t in
    let start = c.entry_start-start.ensures in
    let used : start_in s (owner_of a.n) ≡ 0 → ⊥ = λ z. c.if-start-eq0.false (start ∙ z) in
    let field = field-is t a.n _ _ start c.string_of-string.ensures in
    let size = size-is t a.n _ _ c.read-words.ensures field in
    let offset = offset-is t a.n _ _ c.read-words.ensures field in
    let held = held-is t a.n used _ _ size offset _ c.missing.ensures in
    let there = held ∙ ap not c.if-missing.false in
    let p1 = pass1 t a.n there (omega (arith, offset)) in
    rw field at c.refuse-then-table-end.ensures
    ∙ sym (p1 ∙ rw (there, lt-ltb (length_of t) (offset_in s t a.n + size_in s t a.n) (omega (arith, size, offset))))

pub returns-then-table-end-2 : goal.returns-then-table-end-2
unfolding first_of entry_tests
returns-then-table-end-2 c =
    let a = c.args in
    let t = a.table.t.now in
    let s = starts_of t in
    let start = c.entry_start-start.ensures in
    let used : start_in s (owner_of a.n) ≡ 0 → ⊥ = λ z. c.if-start-eq0.false (start ∙ z) in
    let field = field-is t a.n _ _ start c.string_of-string.ensures in
    let size = size-is t a.n _ _ c.read-words.ensures field in
    let offset = offset-is t a.n _ _ c.read-words.ensures field in
    let held = held-is t a.n used _ _ size offset _ c.missing.ensures in
    let there = held ∙ ap not c.if-missing.false in
    let p1 = pass1 t a.n there (omega (arith, offset)) in
    let p3 = pass3 t a.n there p1 (omega (arith, size, offset)) (omega (arith, offset)) in
    rw field at c.refuse-then-table-end-2.ensures
    ∙ sym (p3 ∙ rw (there, le-leb (length_of t) (offset_in s t a.n + size_in s t a.n) (omega (arith, size, offset))))

pub returns-then-byte_at-ne0 : goal.returns-then-byte_at-ne0
unfolding first_of entry_tests
returns-then-byte_at-ne0 c =
    let a = c.args in
    let t = a.table.t.now in
    let s = starts_of t in
    let start = c.entry_start-start.ensures in
    let used : start_in s (owner_of a.n) ≡ 0 → ⊥ = λ z. c.if-start-eq0.false (start ∙ z) in
    let field = field-is t a.n _ _ start c.string_of-string.ensures in
    let size = size-is t a.n _ _ c.read-words.ensures field in
    let offset = offset-is t a.n _ _ c.read-words.ensures field in
    let held = held-is t a.n used _ _ size offset _ c.missing.ensures in
    let there = held ∙ ap not c.if-missing.false in
    let p1 = pass1 t a.n there (omega (arith, offset)) in
    let p3 = pass3 t a.n there p1 (omega (arith, size, offset)) (omega (arith, offset)) in
    let p4 = pass4 t a.n there p3 (omega (arith, size, offset)) in
    rw field at c.refuse-then-byte_at-ne0.ensures
    ∙ sym (p4 ∙ rw (there, ← size, ← offset, ← c.byte_at.ensures, ne_eqb _ _ c.if-byte_at-ne0.true))

pub returns : goal.returns
unfolding first_of entry_tests
returns c =
    let a = c.args in
    let t = a.table.t.now in
    let s = starts_of t in
    let start = c.entry_start-start.ensures in
    let used : start_in s (owner_of a.n) ≡ 0 → ⊥ = λ z. c.if-start-eq0.false (start ∙ z) in
    let field = field-is t a.n _ _ start c.string_of-string.ensures in
    let size = size-is t a.n _ _ c.read-words.ensures field in
    let offset = offset-is t a.n _ _ c.read-words.ensures field in
    let held = held-is t a.n used _ _ size offset _ c.missing.ensures in
    let there = held ∙ ap not c.if-missing.false in
    let p1 = pass1 t a.n there (omega (arith, offset)) in
    let p3 = pass3 t a.n there p1 (omega (arith, size, offset)) (omega (arith, offset)) in
    let p4 = pass4 t a.n there p3 (omega (arith, size, offset)) in
    let ended = ap₂ (λ (x y : ℕ). byte t (x + y)) (sym offset) (sym size) ∙ sym c.byte_at.ensures ∙ c.if-byte_at-ne0.false in
    let p5 = pass5 t a.n there p4 ended in
    rw (field, c.string_of-string.ensures, size, offset) at c.check_form.ensures ∙ sym (p5 ∙ rw there)
