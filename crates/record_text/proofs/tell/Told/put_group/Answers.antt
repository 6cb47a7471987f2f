-- `put_group` meets its contract, field by field. Assumes nothing.
use mathlib.Core.Path.{◌≡◌, ap, ◌∙◌}
use mathlib.Core.List.{List, ◌++◌}
use Prim.Native.Nat.{ℕ}
use native.Mathlib.Omega.{arith}
use Rattle.octets.specs.Counting.{gather}
use Rattle.text.proofs.PutLaws.{puts-nothing, puts-same, puts-append}
use Rattle.ibft_table.specs.Record.{record_of}
use Rattle.record_text.specs.Fields.{field_count}
use Rattle.record_text.specs.Tell.{kind_number, record_field, line_of, field_line, group_text}
use Rattle.record_text.proofs.TellLaws.{gather-more}
use Rattle.record_text.proofs.tell.Told.put_group.Goals as goal

pub loop-field-init : goal.loop-field-init
unfolding gather
loop-field-init c = puts-nothing _ _ c.requires.1

pub put_field-end-requires : goal.put_field-end-requires
put_field-end-requires c =
    (c.requires.0, c.kind_number-kind.ensures, omega (arith, c.loop-field-test, c.field_count-count.ensures.0))

pub loop-field-preserved : goal.loop-field-preserved
loop-field-preserved c =
    let a = c.args in
    let l = c.loop-field in
    let line_at = λ (n : ℕ). field_line a.self.now.hide (record_of a.self.now.t.now) a.g n in
    let before : List ℕ = gather line_at 0 l.field in
    let line : before ++ line_of a.self.now.hide c.kind_number-kind.result c.index_held-index.result l.field
    (record_field (record_of a.self.now.t.now) a.g l.field) ≡ before ++ line_at l.field = rw (c.kind_number-kind.ensures, c.index_held-index.ensures) in
    puts-same (puts-append l.invariant c.put_field-end.ensures) (line ∙ gather-more line_at l.field)

pub returns : goal.returns
unfolding group_text
returns c =
    let a = c.args in
    let l = c.loop-field in
    let count = c.field_count-count.ensures.0 ∙ ap field_count c.kind_number-kind.ensures in
    let all : l.field ≡ field_count (kind_number a.g) = omega (arith, count, c.loop-field-test) in
    puts-same l.invariant (ap (λ (k : ℕ). gather (λ (n : ℕ). field_line a.self.now.hide (record_of a.self.now.t.now) a.g n) 0 k) all)
