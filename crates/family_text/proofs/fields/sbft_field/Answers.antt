-- `sbft_field` meets its contract, number by number. Assumes nothing.
use mathlib.Core.Path.{sym, ◌∙◌}
use Prim.Native.Nat.{ℕ, ◌≤◌}
use lib.ListN.{length, get_or, get_or-eq_default}
use Rattle.family_text.specs.Fields.{field, sbft_fields}
use Rattle.family_text.specs.declared.fields.Notation.TheVariants.{Oem}
use Rattle.family_text.specs.declared.fields.FieldLayout.{FieldLayout}
use Rattle.family_text.proofs.FieldsLaws.{row}
use Rattle.std.proofs.Common.{arith}
use Rattle.family_text.proofs.fields.sbft_field.Goals as goal

-- field n, as the contract has it
abbrev at : ℕ → FieldLayout
at n = get_or sbft_fields.layout n (field Oem 0 10 6)

pub returns-in-0 : goal.returns-in-0
returns-in-0 c = row at 0 _ _ c.field.ensures c.in-0.is

pub returns-in-1 : goal.returns-in-1
returns-in-1 c = row at 1 _ _ c.field-in-1.ensures c.in-1.is

pub returns-in-2 : goal.returns-in-2
returns-in-2 c = row at 2 _ _ c.field-in-2.ensures c.in-2.is

pub returns-in-3 : goal.returns-in-3
returns-in-3 c = row at 3 _ _ c.field-in-3.ensures c.in-3.is

pub returns-in-4 : goal.returns-in-4
returns-in-4 c = row at 4 _ _ c.field-in-4.ensures c.in-4.is

pub returns-in-5 : goal.returns-in-5
returns-in-5 c = row at 5 _ _ c.field-in-5.ensures c.in-5.is

pub returns-in-6 : goal.returns-in-6
returns-in-6 c = row at 6 _ _ c.field-in-6.ensures c.in-6.is

pub returns-in-7 : goal.returns-in-7
returns-in-7 c = row at 7 _ _ c.field-in-7.ensures c.in-7.is

pub returns-in-8 : goal.returns-in-8
returns-in-8 c = row at 8 _ _ c.field-in-8.ensures c.in-8.is

pub returns-in_default : goal.returns-in_default
returns-in_default c =
    let past : length sbft_fields.layout ≤ c.args.n = omega arith in
    c.field-in_default.ensures ∙ sym (get_or-eq_default sbft_fields.layout (field Oem 0 10 6) past)
