-- `check_start` meets its contract. After the k-th test has passed, the verdict of all tests is that of the tests behind it
-- (`pass1` to `pass4`). Assumes nothing.
use Rattle.std.proofs.Common.{◌≡◌, ◌≤◌, ◌||◌, ℕ, List, false, ltb, sym, ◌∙◌, arith, lt-ltb, le-ltb, le-leb}
use borrow.Author.Tests.{lt-leb}
use Rattle.octets.specs.Counting.{any, count}
use Rattle.ibft_layout.specs.Layout.{least_index}
use Rattle.table_header.specs.Header.{length_of}
use Rattle.ibft_table.specs.Table.{start_at, kind_at, index_at, end_at, alike}
use Rattle.table_header.specs.Verdict.{Test, first_of}
use Rattle.ibft_table.specs.Check.{alien, misplaced, twin, extra_tests}
use Rattle.table_header.proofs.VerdictLaws.{Passed}
use Rattle.ibft_table.proofs.CheckLaws.{misplaced-read}
use Rattle.ibft_table.proofs.check_words.check_start.Goals as goal

module _ (t : List ℕ) (w : ℕ) where
  abbrev tests : List Test
  tests = extra_tests t w

  pass1 : misplaced t w 6 ≡ false → Passed tests 1
  unfolding first_of extra_tests
  pass1 placed = rw placed

  pass2 : Passed tests 1 → alien t (start_at t w) (kind_at t w) (index_at t w) || ltb (index_at t w) least_index ≡ false → Passed tests 2
  unfolding first_of extra_tests
  pass2 before own = before ∙ rw own

  pass3 : Passed tests 2 → end_at t w ≤ length_of t → Passed tests 3
  unfolding first_of extra_tests
  pass3 before inside = before ∙ rw (le-ltb (length_of t) (end_at t w) inside)

  pass4 : Passed tests 3 → any w (twin t w) ≡ false → Passed tests 4
  unfolding first_of extra_tests
  pass4 before single = before ∙ rw single

pub returns-then-misplaced : goal.returns-then-misplaced
unfolding first_of extra_tests
returns-then-misplaced c =
    let a = c.args in
    let placed = misplaced-read a.table.t.now a.w _ c.start_at-start.ensures _ _ _ _ c.misplaced.ensures a.table.least_is a.table.length_is in
    rw c.word_at-at.ensures at c.refuse.ensures ∙ sym (rw (sym placed ∙ c.if-misplaced.true))

pub returns-then-no_extra : goal.returns-then-no_extra
unfolding first_of extra_tests
returns-then-no_extra c =
    let a = c.args in
    let t = a.table.t.now in
    let placed = misplaced-read t a.w _ c.start_at-start.ensures _ _ _ _ c.misplaced.ensures a.table.least_is a.table.length_is in
    let p1 = pass1 t a.w (sym placed ∙ c.if-misplaced.false) in
    rw c.start_at-start.ensures at c.refuse-then-no_extra.ensures ∙ sym (p1 ∙ rw (sym c.no_extra.ensures ∙ c.if-no_extra.true))

pub returns-then-table-end_at : goal.returns-then-table-end_at
unfolding first_of extra_tests
returns-then-table-end_at c =
    let a = c.args in
    let t = a.table.t.now in
    let placed = misplaced-read t a.w _ c.start_at-start.ensures _ _ _ _ c.misplaced.ensures a.table.least_is a.table.length_is in
    let p1 = pass1 t a.w (sym placed ∙ c.if-misplaced.false) in
    let p2 = pass2 t a.w p1 (sym c.no_extra.ensures ∙ c.if-no_extra.false) in
    rw c.word_at-at.ensures at c.refuse-then-table-end_at.ensures
    ∙ sym (p2 ∙ rw (lt-ltb (length_of t) (end_at t a.w) (omega arith)))

pub returns-then-has_twin : goal.returns-then-has_twin
unfolding first_of extra_tests
returns-then-has_twin c =
    let a = c.args in
    let t = a.table.t.now in
    let placed = misplaced-read t a.w _ c.start_at-start.ensures _ _ _ _ c.misplaced.ensures a.table.least_is a.table.length_is in
    let p1 = pass1 t a.w (sym placed ∙ c.if-misplaced.false) in
    let p2 = pass2 t a.w p1 (sym c.no_extra.ensures ∙ c.if-no_extra.false) in
    let p3 = pass3 t a.w p2 (omega arith) in
    let twins : c.has_twin.result ≡ any a.w (twin t a.w) = c.has_twin.ensures in
    rw c.word_at-at.ensures at c.refuse-then-has_twin.ensures ∙ sym (p3 ∙ rw (sym twins ∙ c.if-has_twin.true))

pub returns-then-count_alike-ge-EXTRA_MOST : goal.returns-then-count_alike-ge-EXTRA_MOST
unfolding first_of extra_tests
returns-then-count_alike-ge-EXTRA_MOST c =
    let a = c.args in
    let t = a.table.t.now in
    let placed = misplaced-read t a.w _ c.start_at-start.ensures _ _ _ _ c.misplaced.ensures a.table.least_is a.table.length_is in
    let p1 = pass1 t a.w (sym placed ∙ c.if-misplaced.false) in
    let p2 = pass2 t a.w p1 (sym c.no_extra.ensures ∙ c.if-no_extra.false) in
    let p3 = pass3 t a.w p2 (omega arith) in
    let twins : c.has_twin.result ≡ any a.w (twin t a.w) = c.has_twin.ensures in
    let p4 = pass4 t a.w p3 (sym twins ∙ c.if-has_twin.false) in
    rw c.word_at-at.ensures at c.refuse-then-count_alike-ge-EXTRA_MOST.ensures
    ∙ sym (p4 ∙ rw (le-leb 6 (count a.w (alike t a.w)) (omega arith)))

pub returns : goal.returns
unfolding first_of extra_tests
returns c =
    let a = c.args in
    let t = a.table.t.now in
    let placed = misplaced-read t a.w _ c.start_at-start.ensures _ _ _ _ c.misplaced.ensures a.table.least_is a.table.length_is in
    let p1 = pass1 t a.w (sym placed ∙ c.if-misplaced.false) in
    let p2 = pass2 t a.w p1 (sym c.no_extra.ensures ∙ c.if-no_extra.false) in
    let p3 = pass3 t a.w p2 (omega arith) in
    let twins : c.has_twin.result ≡ any a.w (twin t a.w) = c.has_twin.ensures in
    let p4 = pass4 t a.w p3 (sym twins ∙ c.if-has_twin.false) in
    sym (p4 ∙ rw (lt-leb 6 (count a.w (alike t a.w)) (omega arith)))
