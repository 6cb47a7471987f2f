-- `stray_from` meets its contract: the invariant says that what is left of the lines has the stray line of all of them. Assumes
-- nothing.
use Rattle.std.proofs.Common.{List, ℕ, sym, ap, ◌∙◌, length, arith, rules, tests}
use Rattle.std.specs.List.{slice_split}
use Rattle.std.proofs.lemmas.Iterator.Splits.{YieldsList-from_slice_split}
use Rattle.text.specs.Split.{is}
use Rattle.text.proofs.LeftLaws.{left-some, left-none}
use Rattle.text.proofs.SplitLaws.{pieces-cut}
use Rattle.family_text.specs.Family.{stray_from, stray_read}
use Rattle.family_text.proofs.LinesLaws.{lines-most}
use Rattle.family_text.proofs.FamilyLaws.{stray-first, stray-next}
use Rattle.family_text.proofs.family.stray_from.Goals as goal

pub loop-said-init : goal.loop-said-init
loop-said-init c =
    let text = c.args.text.now in
    let split = c.split-said-items.ensures in
    rw c.into_iter-said-iterator.ensures.into_iter_gives (
      slice_split (is 10) text,
      YieldsList-from_slice_split _ (is 10) text split.rest split.done split.closure (λ x b q k. search (rules, tests)),
      omega arith,
      omega (arith, lines-most text),
      ap (stray_from c.args.family 1) (pieces-cut (is 10) text),
    )

pub returns-then-found-family : goal.returns-then-found-family
returns-then-found-family c =
    let l = c.loop-said in
    let more = left-some l.invariant.1 c.in-Some.said c.next.new.self c.in-Some.ensures.steps in
    stray-first _ more.0 _ c.line_family-found.ensures c.args.family l.line c.if-found-family.true (omega (arith, l.invariant.2))
    ∙ ap (λ (ls : List (List ℕ)). stray_read (stray_from c.args.family l.line ls)) (sym more.1) ∙ ap stray_read l.invariant.4

pub overflow_add-line : goal.overflow_add-line
overflow_add-line c = omega (arith, c.loop-said.invariant.3)

pub loop-said-preserved : goal.loop-said-preserved
loop-said-preserved c =
    let l = c.loop-said in
    let more = left-some l.invariant.1 c.in-Some.said c.next.new.self c.in-Some.ensures.steps in (
      more.0,
      more.2,
      omega arith,
      omega (arith, l.invariant.3, ap length more.1),
      stray-next _ more.0 _ c.line_family-found.ensures c.args.family l.line c.if-found-family.false
          ∙ ap (stray_from c.args.family l.line) (sym more.1) ∙ l.invariant.4,
    )

pub returns : goal.returns
unfolding stray_from
returns c =
    let l = c.loop-said in
    ap (λ (ls : List (List ℕ)). stray_read (stray_from c.args.family l.line ls)) (sym (left-none l.invariant.1 c.next.new.self c.in-None.ensures.steps))
    ∙ ap stray_read l.invariant.4
