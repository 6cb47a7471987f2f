-- `put_present` meets its contract. Assumes nothing.
use mathlib.Core.Path.{ap, ◌∙◌}
use Rattle.octets.specs.Octets.{le16, write}
use Rattle.sbft.specs.Layout.{part_of}
use Rattle.sbft.specs.declared.layout.Part.{Part}
use Rattle.family_text.proofs.EnterLaws.{present-other, present-ib}
use Rattle.family_text.proofs.enter.put_present.Goals as goal

pub returns-then-part-ne-IB_PART : goal.returns-then-part-ne-IB_PART
returns-then-part-ne-IB_PART c = present-other _ _ c.if-part-ne-IB_PART.true

pub returns : goal.returns
unfolding part_of
returns c =
    let word = ap (λ (x : Part). write c.args.image.now x.word (le16 x.place)) c.part_of-ib.ensures in
    present-ib _ _ _ c.if-part-ne-IB_PART.false (c.put_u16.ensures ∙ word)
