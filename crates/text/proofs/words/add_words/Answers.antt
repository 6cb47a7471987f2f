-- `add_words` meets its contract: the invariant says that the words that are left, added to the set so far, make what all of
-- them make. Assumes nothing.
use Rattle.std.proofs.Common.{ℕ, List, ap, sym, ◌∙◌, rules, tests}
use borrow.Author.Tests.{eqb-true, eqb-false}
use Rattle.std.specs.List.{slice_split}
use Rattle.std.proofs.lemmas.Iterator.Splits.{YieldsList-from_slice_split}
use Rattle.text.specs.Split.{is_blank}
use Rattle.text.specs.Words.{non_empty, with_words}
use Rattle.text.proofs.LeftLaws.{left-some, left-none}
use Rattle.text.proofs.SplitLaws.{pieces-cut}
use Rattle.text.proofs.WordsLaws.{with-empty, with-stop, with-more}
use Rattle.text.proofs.words.add_words.Goals as goal

pub loop-word-init : goal.loop-word-init
loop-word-init c =
    let s = c.args.s.now in
    let split = c.split-word-items.ensures in
    rw c.into_iter-word-iterator.ensures.into_iter_gives (
      slice_split is_blank s,
      YieldsList-from_slice_split _ is_blank s split.rest split.done split.closure (λ x b q k. search (rules, tests)),
      ap (λ (ls : List (List ℕ)). with_words c.args.list.now c.args.v (non_empty ls)) (pieces-cut is_blank s),
    )

pub returns-in_err-set : goal.returns-in_err-set
returns-in_err-set c =
    let l = c.loop-word in
    let more = left-some l.invariant.1 c.in-Some.word c.next.new.self c.in-Some.ensures.steps in
    c.from_residual.ensures
    ∙ with-stop c.args.list.now l.set _ _ more.0 more.1 (eqb-false _ _ (sym c.is_empty.ensures ∙ c.if-not-is_empty.true)) (sym c.in_err-set.was ∙ c.with_word.ensures) ∙ l.invariant.2

pub loop-word-preserved-then-not-is_empty : goal.loop-word-preserved-then-not-is_empty
loop-word-preserved-then-not-is_empty c =
    let l = c.loop-word in
    let more = left-some l.invariant.1 c.in-Some.word c.next.new.self c.in-Some.ensures.steps in (
      more.0,
      more.2,
      with-more c.args.list.now l.set _ _ more.0 more.1 (eqb-false _ _ (sym c.is_empty.ensures ∙ c.if-not-is_empty.true)) _ (sym c.in_ok-set.was ∙ c.with_word.ensures) ∙ l.invariant.2,
    )

pub loop-word-preserved : goal.loop-word-preserved
loop-word-preserved c =
    let l = c.loop-word in
    let more = left-some l.invariant.1 c.in-Some.word c.next.new.self c.in-Some.ensures.steps in (
      more.0,
      more.2,
      with-empty c.args.list.now l.set _ _ more.0 more.1 (eqb-true _ _ (sym c.is_empty.ensures ∙ c.if-not-is_empty.false)) ∙ l.invariant.2,
    )

pub returns : goal.returns
unfolding with_words non_empty
returns c =
    let l = c.loop-word in
    ap (λ (ls : List (List ℕ)). with_words c.args.list.now l.set (non_empty ls)) (sym (left-none l.invariant.1 c.next.new.self c.in-None.ensures.steps))
    ∙ l.invariant.2
