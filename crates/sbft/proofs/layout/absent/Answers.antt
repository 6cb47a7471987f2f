-- `absent` meets its contract: a part that may not be absent is not; of another the offset decides. Assumes nothing.
use mathlib.Core.Path.{sym, ap, ◌∙◌}
use borrow.Author.Tests.{not-true, not-false}
use Rattle.sbft.specs.Layout.{absent}
use Rattle.sbft.specs.declared.layout.Part.{Part}
use Rattle.sbft.proofs.layout.absent.Goals as goal

pub returns-then-not-part_of : goal.returns-then-not-part_of
unfolding absent
returns-then-not-part_of c =
    let optional = ap (λ (p : Part). p.optional) c.part_of.ensures in
    sym (rw (sym optional ∙ not-true _ c.if-not-part_of.true))

pub returns : goal.returns
unfolding absent
returns c =
    let optional = ap (λ (p : Part). p.optional) c.part_of.ensures in
    sym (rw (sym optional ∙ not-false _ c.if-not-part_of.false, ← c.offset_of.ensures))
