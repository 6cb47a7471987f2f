-- `enter_lines` meets its contract: the invariant says that what is left of the lines, read on from here, has the outcome of
-- all of them. Assumes nothing.
use Rattle.std.proofs.Common.{refl, sym, ap, ◌∙◌, length, arith, rules, tests}
use Rattle.std.specs.List.{slice_split}
use Rattle.std.proofs.lemmas.Iterator.Splits.{YieldsList-from_slice_split}
use Rattle.text.specs.Split.{is}
use Rattle.text.proofs.LeftLaws.{left-some, left-none}
use Rattle.text.proofs.SplitLaws.{pieces-cut}
use Rattle.family_text.specs.Enter.{lines_from}
use Rattle.family_text.specs.Entering.{draft_with}
use Rattle.family_text.proofs.LinesLaws.{lines-most}
use Rattle.family_text.proofs.EnterLaws.{reason-some, lines-refused, lines-next}
use Rattle.family_text.proofs.enter.enter_lines.Goals as goal

pub loop-said-init : goal.loop-said-init
loop-said-init c =
    let a = c.args in
    let text = a.text.now in
    let split = c.split-said-items.ensures in
    rw c.into_iter-said-iterator.ensures.into_iter_gives (
      slice_split (is 10) text,
      YieldsList-from_slice_split _ (is 10) text split.rest split.done split.closure (λ x b q k. search (rules, tests)),
      omega (arith, lines-most text),
      refl,
      refl,
      ap (lines_from a.family (draft_with a.image.now a.given.now) 1) (pieces-cut (is 10) text),
    )

pub returns-in-Err : goal.returns-in-Err
returns-in-Err c =
    let l = c.loop-said in
    let more = left-some l.invariant.1 c.in-Some.said c.next.new.self c.in-Some.ensures.steps in
    lines-refused _ more.0 _ _ l.line _ c.in-Err.ensures (reason-some c.in-Err.unread.reason)
    ∙ ap (lines_from c.args.family (draft_with l.image l.given) l.line) (sym more.1) ∙ l.invariant.5

pub overflow_add-line : goal.overflow_add-line
overflow_add-line c = omega (arith, c.loop-said.invariant.2)

pub loop-said-preserved : goal.loop-said-preserved
loop-said-preserved c =
    let l = c.loop-said in
    let more = left-some l.invariant.1 c.in-Some.said c.next.new.self c.in-Some.ensures.steps in (
      more.0,
      more.2,
      omega (arith, l.invariant.2, ap length more.1),
      search rules,
      search rules,
      lines-next _ more.0 _ _ l.line _ c.in-Ok.ensures refl
          ∙ ap (lines_from c.args.family (draft_with l.image l.given) l.line) (sym more.1) ∙ l.invariant.5,
    )

pub returns : goal.returns
unfolding lines_from
returns c =
    let l = c.loop-said in
    ap (lines_from c.args.family (draft_with l.image l.given) l.line) (sym (left-none l.invariant.1 c.next.new.self c.in-None.ensures.steps))
    ∙ l.invariant.5
