-- `put_line` meets its contract: nothing, or name, space, value and line feed, one behind another. Assumes nothing.
use mathlib.Core.Path.{ap}
use mathlib.Core.List.{List}
use Prim.Native.Nat.{ℕ}
use Rattle.text.proofs.PutLaws.{puts-same, puts-append}
use Rattle.family_text.specs.Value.{value_text}
use Rattle.family_text.specs.Tell.{line_with}
use Rattle.family_text.proofs.TellLaws.{line-untold, line-told}
use Rattle.family_text.proofs.tell.put_line.Goals as goal

pub returns-then-not-is_told : goal.returns-then-not-is_told
returns-then-not-is_told c =
    let a = c.args in
    puts-same c.put_text.ensures
    (line-untold a.t.now a.family a.n _ c.field_at-field.ensures _ c.is_told.ensures
    c.if-not-is_told.true)

pub returns : goal.returns
unfolding line_with
returns c =
    let a = c.args in
    let field = c.field_at-field.result in
    let value = puts-same c.put_value-value.ensures
    (ap (λ (b : List ℕ). value_text field.notation field.width b) c.bytes_in.ensures) in
    puts-same (puts-append c.put_name-name.ensures
    (puts-append c.put_char-space.ensures (puts-append value c.put_char.ensures)))
    (line-told a.t.now a.family a.n _ c.field_at-field.ensures _ c.is_told.ensures c.if-not-is_told.false)
