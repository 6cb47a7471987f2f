-- `named_size` meets its contract: the entry is missing, or its length decides. Assumes nothing.
use mathlib.Core.Path.{sym, ◌∙◌}
use native.Mathlib.Omega.{arith}
use Rattle.ibft_build.proofs.EntryLaws.{length-is, wanted-on, wanted-off}
use Rattle.ibft_build.proofs.stored.named_size.Goals as goal

pub overflow_add-result : goal.overflow_add-result
overflow_add-result c =
    let p = c.requires in
    let on = sym c.named_given.ensures ∙ c.if-named_given.true in
    let n = c.args.n in
    omega (arith, length-is c.args.range.now n _ _ c.named_field.ensures c.u16_at.ensures, p.1 n (omega arith) on)

pub returns-then-named_given : goal.returns-then-named_given
returns-then-named_given c =
    let on = sym c.named_given.ensures ∙ c.if-named_given.true in
    wanted-on _ _ on _ (length-is _ _ _ _ c.named_field.ensures c.u16_at.ensures)

pub returns : goal.returns
returns c = wanted-off _ _ (sym c.named_given.ensures ∙ c.if-named_given.false)
