-- `check_named` meets its contract: its two tests, then its flags. Assumes nothing.
use Rattle.std.proofs.Common.{◌≡◌, ◌<◌, ◌%◌, ◌+◌, ◌||◌, ltb, ℕ, List, Bool, sym, ap, ◌∙◌, arith, eq-eqb}
use borrow.Author.Tests.{not-true, not-false}
use Rattle.octets.specs.Octets.{differs}
use Rattle.ibft_layout.specs.Layout.{named_count, kind_of, index_of}
use Rattle.ibft_layout.specs.Shapes.{shape_of}
use Rattle.ibft_layout.specs.declared.shape.Shape.{Shape}
use Rattle.table_header.specs.Header.{length_of}
use Rattle.ibft_table.specs.Table.{control_end_of, start_at, used_at, kind_at, index_at}
use Rattle.table_header.specs.Verdict.{first_of}
use Rattle.ibft_table.specs.Check.{misplaced, word_tests}
use Rattle.ibft_table.proofs.SeatLaws.{kind-named, index-named}
use Rattle.ibft_table.proofs.CheckLaws.{misplaced-read, alien-read, named-misplaced, named-alien, named-passed, flags-reserved}
use Rattle.ibft_table.proofs.CheckLaws.{flags-plain, flags-chap, flags-pass}
use Rattle.ibft_table.proofs.check_words.check_named.Goals as goal

-- what the calls answer, as the tests have it
module _ (t : List ℕ) (w : ℕ) (h : w < named_count) where
  kind-is : (shape : Shape) → shape ≡ shape_of (kind_of w) → shape ≡ shape_of (kind_at t w)
  kind-is shape is = is ∙ ap shape_of (sym (kind-named t w h))

  index-is : (index : ℕ) → index ≡ index_of w → index ≡ index_at t w
  index-is index is = is ∙ sym (index-named t w h)

  misplaced-is : (start least long : ℕ) (shape : Shape) (v : Bool) → v ≡ differs (start % 8) 0 || (ltb start least || ltb long (start + shape.length))
      → start ≡ start_at t w → least ≡ control_end_of t → long ≡ length_of t → shape ≡ shape_of (kind_of w)
      → v ≡ misplaced t w (kind_at t w).length
  misplaced-is start least long shape v is at from to kind =
      misplaced-read t w start at least long shape.length v is from to
      ∙ ap (λ (s : Shape). misplaced t w s.length) (kind-is shape kind)

pub returns-then-start-eq0 : goal.returns-then-start-eq0
unfolding first_of word_tests used_at
returns-then-start-eq0 c = sym (rw (eq-eqb (start_at c.args.table.t.now c.args.w) 0 (omega arith)))

pub returns-then-misplaced : goal.returns-then-misplaced
returns-then-misplaced c =
    let a = c.args in
    let t = a.table.t.now in
    let read = misplaced-is t a.w (omega arith) _ _ _ _ _ c.misplaced.ensures c.start_at-start.ensures a.table.least_is a.table.length_is c.kind_of-kind.ensures in
    rw c.word_at.ensures at c.refuse.ensures ∙ named-misplaced t a.w (omega arith) (omega arith) (sym read ∙ c.if-misplaced.true)

pub returns-then-alien : goal.returns-then-alien
returns-then-alien c =
    let a = c.args in
    let t = a.table.t.now in
    let kind = kind-is t a.w (omega arith) _ c.kind_of-kind.ensures in
    let read = misplaced-is t a.w (omega arith) _ _ _ _ _ c.misplaced.ensures c.start_at-start.ensures a.table.least_is a.table.length_is c.kind_of-kind.ensures in
    let own = alien-read t a.w _ c.start_at-start.ensures _ kind _ _ c.alien.ensures (index-is t a.w (omega arith) _ c.index_of.ensures) in
    rw c.start_at-start.ensures at c.refuse-then-alien.ensures
    ∙ named-alien t a.w (omega arith) (omega arith) (sym read ∙ c.if-misplaced.false) (sym own ∙ c.if-alien.true)

pub returns-then-byte_at-kind-ne0 : goal.returns-then-byte_at-kind-ne0
returns-then-byte_at-kind-ne0 c =
    let a = c.args in
    let t = a.table.t.now in
    let kind = kind-is t a.w (omega arith) _ c.kind_of-kind.ensures in
    let read = misplaced-is t a.w (omega arith) _ _ _ _ _ c.misplaced.ensures c.start_at-start.ensures a.table.least_is a.table.length_is c.kind_of-kind.ensures in
    let own = alien-read t a.w _ c.start_at-start.ensures _ kind _ _ c.alien.ensures (index-is t a.w (omega arith) _ c.index_of.ensures) in
    c.refuse-then-byte_at-kind-ne0.ensures
    ∙ flags-reserved t a.w _ c.start_at-start.ensures _ kind _ c.byte_at.ensures c.if-byte_at-kind-ne0.true
    ∙ named-passed t a.w (omega arith) (omega arith) (sym read ∙ c.if-misplaced.false) (sym own ∙ c.if-alien.false)

pub returns-then-not-kind : goal.returns-then-not-kind
returns-then-not-kind c =
    let a = c.args in
    let t = a.table.t.now in
    let kind = kind-is t a.w (omega arith) _ c.kind_of-kind.ensures in
    let read = misplaced-is t a.w (omega arith) _ _ _ _ _ c.misplaced.ensures c.start_at-start.ensures a.table.least_is a.table.length_is c.kind_of-kind.ensures in
    let own = alien-read t a.w _ c.start_at-start.ensures _ kind _ _ c.alien.ensures (index-is t a.w (omega arith) _ c.index_of.ensures) in
    flags-plain t a.w _ c.start_at-start.ensures _ kind _ c.byte_at.ensures c.if-byte_at-kind-ne0.false (not-true _ c.if-not-kind.true)
    ∙ named-passed t a.w (omega arith) (omega arith) (sym read ∙ c.if-misplaced.false) (sym own ∙ c.if-alien.false)

pub returns-then-byte_at-gt-CHAP_LAST : goal.returns-then-byte_at-gt-CHAP_LAST
returns-then-byte_at-gt-CHAP_LAST c =
    let a = c.args in
    let t = a.table.t.now in
    let kind = kind-is t a.w (omega arith) _ c.kind_of-kind.ensures in
    let read = misplaced-is t a.w (omega arith) _ _ _ _ _ c.misplaced.ensures c.start_at-start.ensures a.table.least_is a.table.length_is c.kind_of-kind.ensures in
    let own = alien-read t a.w _ c.start_at-start.ensures _ kind _ _ c.alien.ensures (index-is t a.w (omega arith) _ c.index_of.ensures) in
    c.refuse-then-byte_at-gt-CHAP_LAST.ensures
    ∙ flags-chap t a.w _ c.start_at-start.ensures _ kind _ c.byte_at.ensures c.if-byte_at-kind-ne0.false
    (not-false _ c.if-not-kind.false) _ c.byte_at-2.ensures c.if-byte_at-gt-CHAP_LAST.true
    ∙ named-passed t a.w (omega arith) (omega arith) (sym read ∙ c.if-misplaced.false) (sym own ∙ c.if-alien.false)

pub returns : goal.returns
returns c =
    let a = c.args in
    let t = a.table.t.now in
    let kind = kind-is t a.w (omega arith) _ c.kind_of-kind.ensures in
    let read = misplaced-is t a.w (omega arith) _ _ _ _ _ c.misplaced.ensures c.start_at-start.ensures a.table.least_is a.table.length_is c.kind_of-kind.ensures in
    let own = alien-read t a.w _ c.start_at-start.ensures _ kind _ _ c.alien.ensures (index-is t a.w (omega arith) _ c.index_of.ensures) in
    flags-pass t a.w _ c.start_at-start.ensures _ kind _ c.byte_at.ensures c.if-byte_at-kind-ne0.false
    (not-false _ c.if-not-kind.false) _ c.byte_at-2.ensures c.if-byte_at-gt-CHAP_LAST.false
    ∙ named-passed t a.w (omega arith) (omega arith) (sym read ∙ c.if-misplaced.false) (sym own ∙ c.if-alien.false)
