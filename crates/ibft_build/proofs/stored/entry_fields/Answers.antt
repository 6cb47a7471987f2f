-- `entry_fields` meets its contract: the elements passed are where the words of their entries stand, and entries from the limit
-- on are not looked at. Assumes nothing.
use Rattle.std.proofs.Common.{◌≡◌, ◌∙◌, arith}
use Rattle.ibft_build_rules.specs.RecordRange.{base_size}
use Rattle.ibft_layout.specs.Layout.{entry_count}
use Rattle.ibft_build.specs.Planning.{entry_fields}
use Rattle.ibft_build.proofs.ListLaws.{filled-zeros, filled_more, filled-done}
use Rattle.ibft_record.proofs.RecordLaws.{field-small, entry-limit-least}
use Rattle.ibft_build.proofs.EntryLaws.{limit-most, field-on, field_past}
use Rattle.ibft_build.proofs.stored.entry_fields.Goals as goal

pub loop-n-init : goal.loop-n-init
loop-n-init c = filled-zeros _ entry_count _ c.requires.1

pub loop-n-preserved : goal.loop-n-preserved
loop-n-preserved c =
    let l = c.loop-n in
    let least = entry-limit-least c.args.range.now in
    filled_more _ _ l.fields l.n l.invariant (omega arith) c.named_field.result (c.named_field.ensures ∙ field-on _ _ (omega arith))

pub loop-n-2-init : goal.loop-n-2-init
loop-n-2-init c =
    let n : c.loop-n.n ≡ 13 = omega arith in (limit-most _ _ c.requires.0, rw n at c.loop-n.invariant)

pub overflow_cast-fields-in-loop-n-2 : goal.overflow_cast-fields-in-loop-n-2
overflow_cast-fields-in-loop-n-2 c =
    let small = c.type_inv.range base_size in
    omega (arith, c.field_at.ensures, field-small c.args.range.now c.loop-n-2.n (omega arith) (omega arith) (omega arith))

pub loop-n-2-preserved : goal.loop-n-2-preserved
loop-n-2-preserved c =
    let l = c.loop-n-2 in
    let limit = c.requires.0 in
    (l.invariant.0, filled_more _ _ l.fields l.n l.invariant.1 (omega arith) c.field_at.result (c.field_at.ensures ∙ field-on _ _ (omega arith)))

pub returns : goal.returns
unfolding entry_fields
returns c =
    let l = c.loop-n-2 in
    let limit = c.requires.0 in
    filled-done _ _ l.fields l.n l.invariant.1 (λ j h. field_past _ j (omega arith))
