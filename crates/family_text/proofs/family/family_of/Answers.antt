-- `family_of` meets its contract: the invariant says that what is left of the lines has the family of all of them. Assumes
-- nothing.
use Rattle.std.proofs.Common.{sym, ap, ◌∙◌, rules, tests}
use Rattle.std.specs.List.{slice_split}
use Rattle.std.proofs.lemmas.Iterator.Splits.{YieldsList-from_slice_split}
use Rattle.text.specs.Split.{is}
use Rattle.text.proofs.LeftLaws.{left-some, left-none}
use Rattle.text.proofs.SplitLaws.{pieces-cut}
use Rattle.family_text.specs.Family.{first_family, text_family}
use Rattle.family_text.proofs.FamilyLaws.{family-first, family-next}
use Rattle.family_text.proofs.family.family_of.Goals as goal

pub loop-line-init : goal.loop-line-init
unfolding text_family
loop-line-init c =
    let text = c.args.text.now in
    let split = c.split-line-items.ensures in
    rw c.into_iter-line-iterator.ensures.into_iter_gives (
      slice_split (is 10) text,
      YieldsList-from_slice_split _ (is 10) text split.rest split.done split.closure (λ x b q k. search (rules, tests)),
      ap first_family (pieces-cut (is 10) text),
    )

pub returns-then-family-ne-NONE : goal.returns-then-family-ne-NONE
returns-then-family-ne-NONE c =
    let more = left-some c.loop-line.invariant.1 c.in-Some.line c.next.new.self c.in-Some.ensures.steps in
    family-first _ more.0 _ c.line_family-family.ensures c.if-family-ne-NONE.true ∙ ap first_family (sym more.1) ∙ c.loop-line.invariant.2

pub loop-line-preserved : goal.loop-line-preserved
loop-line-preserved c =
    let more = left-some c.loop-line.invariant.1 c.in-Some.line c.next.new.self c.in-Some.ensures.steps in (
      more.0,
      more.2,
      family-next _ more.0 _ c.line_family-family.ensures c.if-family-ne-NONE.false ∙ ap first_family (sym more.1) ∙ c.loop-line.invariant.2,
    )

pub returns : goal.returns
unfolding first_family
returns c =
    ap first_family (sym (left-none c.loop-line.invariant.1 c.next.new.self c.in-None.ensures.steps)) ∙ c.loop-line.invariant.2
