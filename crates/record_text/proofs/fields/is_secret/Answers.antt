-- `is_secret` meets its contract: the layout's word on that string. Assumes nothing.
use mathlib.Core.Path.{◌∙◌, ap}
use mathlib.Core.Bool.{not}
use Prim.Native.Nat.{◌≤◌, ◌<◌}
use native.Mathlib.Omega.{arith}
use Rattle.ibft_layout.specs.Layout.{may_share}
use Rattle.record_text.specs.Fields.{field_count, plain_count}
use Rattle.record_text.proofs.FieldsLaws.{text-kind, text-entry, secret-plain, secret-past, secret-string}
use Rattle.record_text.proofs.fields.is_secret.Goals as goal

pub returns-then-n-plain : goal.returns-then-n-plain
returns-then-n-plain c = secret-plain _ _ (omega (arith, c.if-n-plain.true, c.plain_count-plain.ensures.0))

pub returns-then-field_count-n : goal.returns-then-field_count-n
returns-then-field_count-n c = secret-past _ _ (omega (arith, c.if-field_count-n.true, c.field_count.ensures.0))

pub overflow_sub-kind : goal.overflow_sub-kind
overflow_sub-kind c =
    let from : plain_count c.args.kind ≤ c.args.n = omega (arith, c.if-n-plain.false, c.plain_count-plain.ensures.0) in
    let to : c.args.n < field_count c.args.kind = omega (arith, c.if-field_count-n.false, c.field_count.ensures.0) in
    omega (arith, text-kind _ _ from to)

pub overflow_add-first_entry : goal.overflow_add-first_entry
overflow_add-first_entry c =
    let from : plain_count c.args.kind ≤ c.args.n = omega (arith, c.if-n-plain.false, c.plain_count-plain.ensures.0) in
    let to : c.args.n < field_count c.args.kind = omega (arith, c.if-field_count-n.false, c.field_count.ensures.0) in
    omega (arith, c.first_entry.ensures, text-entry _ _ from to)

pub returns : goal.returns
returns c =
    let a = c.args in
    let from : plain_count a.kind ≤ a.n = omega (arith, c.if-n-plain.false, c.plain_count-plain.ensures.0) in
    let to : a.n < field_count a.kind = omega (arith, c.if-field_count-n.false, c.field_count.ensures.0) in
    ap not (c.may_share.ensures ∙ ap may_share (rw (c.first_entry.ensures, c.plain_count-plain.ensures.0)))
    ∙ secret-string a.kind a.n from to
