-- `flags_of` meets its contract, kind by kind. Assumes nothing.
use Rattle.std.proofs.Common.{refl, ℕ, arith}
use Rattle.octets.specs.Counting.{tabulate}
use Rattle.record_text.specs.Fields.{group_of}
use Rattle.record_text.proofs.FieldsLaws.{row, flags-none}
use Rattle.record_text.proofs.fields.flags_of.Goals as goal

pub returns-in-2 : goal.returns-in-2
unfolding group_of tabulate
returns-in-2 c = row (λ (g : ℕ). (group_of g).flags) 2 _ _ refl c.in-2.is

pub returns-in-3 : goal.returns-in-3
unfolding group_of tabulate
returns-in-3 c = row (λ (g : ℕ). (group_of g).flags) 3 _ _ refl c.in-3.is

pub returns-in-4 : goal.returns-in-4
unfolding group_of tabulate
returns-in-4 c = row (λ (g : ℕ). (group_of g).flags) 4 _ _ refl c.in-4.is

pub returns-in_default : goal.returns-in_default
returns-in_default c =
    let rest = c.in_default.in_default-own.rest in
    flags-none _ (λ h. omega (arith, rest.0.0.1, rest.0.1, rest.1))
