-- `Table::slot_with` meets its contract: no extra passed has the Index, so that the first one found is the first there is.
-- Assumes nothing.
use Rattle.std.proofs.Common.{sym, ◌∙◌, arith, eq-eqb, ne_eqb, below_more}
use borrow.Author.Tests.{lt-ltb}
use Rattle.octets.proofs.CountingLaws.{first-is}
use Rattle.ibft_layout.specs.Layout.{extra_most}
use Rattle.ibft_compare.specs.Pairs.{slot_as, slot_with}
use Rattle.ibft_compare.proofs.table.Table.slot_with.Goals as goal

pub returns-then-byte_at-index : goal.returns-then-byte_at-index
unfolding slot_with slot_as
returns-then-byte_at-index c =
    let l = c.loop-i in
    let found = first-is extra_most _ l.i (omega arith) l.invariant (λ h. eq-eqb _ _ (sym c.byte_at.ensures ∙ c.if-byte_at-index.true)) in
    rw (found, lt-ltb l.i extra_most (omega arith))

pub loop-i-preserved : goal.loop-i-preserved
loop-i-preserved c = below_more _ _ c.loop-i.invariant (ne_eqb _ _ (λ e. c.if-byte_at-index.false (c.byte_at.ensures ∙ e)))

pub returns : goal.returns
unfolding slot_with slot_as
returns c =
    let l = c.loop-i in
    rw (first-is extra_most _ extra_most (omega arith) (λ j h. l.invariant j (omega arith)) (λ h. absurd (omega arith)))
