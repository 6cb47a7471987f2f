-- `names_of` meets its contract, kind by kind. Assumes nothing.
use Rattle.std.proofs.Common.{refl, ℕ}
use Rattle.octets.specs.Counting.{tabulate}
use Rattle.ibft_layout.proofs.LayoutLaws.{last_arm}
use Rattle.record_text.specs.Fields.{group_of}
use Rattle.record_text.proofs.FieldsLaws.{row, names-past}
use Rattle.record_text.proofs.fields.names_of.Goals as goal

pub returns-in-1 : goal.returns-in-1
unfolding group_of tabulate
returns-in-1 c = row (λ (g : ℕ). (group_of g).names) 1 _ _ refl c.in-1.is

pub returns-in-2 : goal.returns-in-2
unfolding group_of tabulate
returns-in-2 c = row (λ (g : ℕ). (group_of g).names) 2 _ _ refl c.in-2.is

pub returns-in-3 : goal.returns-in-3
unfolding group_of tabulate
returns-in-3 c = row (λ (g : ℕ). (group_of g).names) 3 _ _ refl c.in-3.is

pub returns-in-4 : goal.returns-in-4
unfolding group_of tabulate
returns-in-4 c = row (λ (g : ℕ). (group_of g).names) 4 _ _ refl c.in-4.is

pub returns-in_default : goal.returns-in_default
unfolding group_of tabulate
returns-in_default c = last_arm (λ (g : ℕ). (group_of g).names) 4 _ c.in_default.in_default-own.rest (λ h. names-past _ h)
