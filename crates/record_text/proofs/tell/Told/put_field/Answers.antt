-- `put_field` meets its contract, group by group. Assumes nothing.
use mathlib.Core.Path.{◌≡◌, sym, ap, ◌∙◌}
use Prim.Native.Nat.{ℕ, ◌+◌, ◌-◌}
use native.Mathlib.Omega.{arith}
use Rattle.text.proofs.PutLaws.{puts-same}
use Rattle.ibft_table.specs.Record.{record_of}
use Rattle.record_text.specs.Tell.{record_field, line_of}
use Rattle.record_text.proofs.TellLaws.{kind-of-group}
use Rattle.record_text.proofs.tell.Told.put_field.Goals as goal

pub returns-then-g-eq0 : goal.returns-then-g-eq0
returns-then-g-eq0 c =
    let a = c.args in
    let f = a.f in
    let line = line_of a.self.now.hide f.kind f.index f.field in
    puts-same c.put_oem_line.ensures (ap (λ (g : ℕ). line (record_field (record_of a.self.now.t.now) g f.field)) (sym c.if-g-eq0.true))

pub returns-then-g-eq1 : goal.returns-then-g-eq1
returns-then-g-eq1 c =
    let a = c.args in
    let f = a.f in
    let line = line_of a.self.now.hide f.kind f.index f.field in
    puts-same c.put_mode_line.ensures (ap (λ (g : ℕ). line (record_field (record_of a.self.now.t.now) g f.field)) (sym c.if-g-eq1.true))

pub put_plain_line-requires : goal.put_plain_line-requires
put_plain_line-requires c =
    let pre = c.requires in (
      omega (arith, pre.0, c.if-g-eq0.false, c.if-g-eq1.false),
      pre.1
          ∙ kind-of-group c.args.g (omega (arith, c.if-g-eq0.false, c.if-g-eq1.false)),
      omega (arith, c.if-f-plain_count.true, c.plain_count.ensures.0),
    )

pub put_string_line-requires : goal.put_string_line-requires
put_string_line-requires c =
    let pre = c.requires in (
      omega (arith, pre.0, c.if-g-eq0.false, c.if-g-eq1.false),
      pre.1
          ∙ kind-of-group c.args.g (omega (arith, c.if-g-eq0.false, c.if-g-eq1.false)),
      omega (arith, c.if-f-plain_count.false, c.plain_count.ensures.0),
      pre.2,
    )

pub returns-then-f-plain_count : goal.returns-then-f-plain_count
returns-then-f-plain_count c =
    let a = c.args in
    let f = a.f in
    let line = line_of a.self.now.hide f.kind f.index f.field in
    let back : 2 + (a.g - 2) ≡ a.g = omega (arith, c.if-g-eq0.false, c.if-g-eq1.false) in
    puts-same c.put_plain_line.ensures (ap (λ (g : ℕ). line (record_field (record_of a.self.now.t.now) g f.field)) back)

pub returns : goal.returns
returns c =
    let a = c.args in
    let f = a.f in
    let line = line_of a.self.now.hide f.kind f.index f.field in
    let back : 2 + (a.g - 2) ≡ a.g = omega (arith, c.if-g-eq0.false, c.if-g-eq1.false) in
    puts-same c.put_string_line.ensures (ap (λ (g : ℕ). line (record_field (record_of a.self.now.t.now) g f.field)) back)
