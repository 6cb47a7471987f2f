-- `field_number` meets its contract: none before n stands there. Assumes nothing.
use Rattle.std.proofs.Common.{sym, ap, ◌∙◌, arith, eq-eqb, ne_eqb, below_more}
use lib.Dec.{eqb}
use Rattle.octets.proofs.CountingLaws.{first-is}
use Rattle.record_text.specs.Fields.{field_count, field_of}
use Rattle.record_text.specs.declared.fields.FieldLayout.{FieldLayout}
use Rattle.difference_text.specs.DifferenceText.{field_number}
use Rattle.difference_text.proofs.field_number.Goals as goal

pub returns-then-field_at-at : goal.returns-then-field_at-at
unfolding field_number
returns-then-field_at-at c =
    let a = c.args in
    let at = ap (λ (f : FieldLayout). f.at) c.field_at.ensures in
    sym (first-is (field_count a.kind) _ c.loop-n.n (omega (arith, c.field_count-count.ensures.0)) c.loop-n.invariant
    (λ l. eq-eqb _ a.at (sym at ∙ c.if-field_at-at.true)))

pub loop-n-preserved : goal.loop-n-preserved
loop-n-preserved c =
    let a = c.args in
    let at = ap (λ (f : FieldLayout). f.at) c.field_at.ensures in
    below_more _ _ c.loop-n.invariant (ne_eqb _ a.at (λ e. c.if-field_at-at.false (at ∙ e)))

pub returns : goal.returns
unfolding field_number
returns c =
    let a = c.args in
    c.field_count-count.ensures.0
    ∙ sym (first-is (field_count a.kind) (λ n. eqb (field_of a.kind n).at a.at) (field_count a.kind) (omega arith)
    (λ j l. c.loop-n.invariant j (omega (arith, c.field_count-count.ensures.0))) (λ l. absurd (omega arith)))
