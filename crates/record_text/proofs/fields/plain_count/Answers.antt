-- `plain_count` meets its contract, kind by kind. Assumes nothing.
use mathlib.Core.Path.{refl}
use Rattle.ibft_layout.proofs.LayoutLaws.{last_arm}
use Rattle.record_text.specs.Fields.{group_of, field_count, plain_count}
use Rattle.record_text.proofs.FieldsLaws.{row, plain-past}
use borrow.Author.Rules.{rules}
use Rattle.record_text.proofs.fields.plain_count.Goals as goal

pub returns-in_default : goal.returns-in_default
unfolding plain_count field_count group_of
returns-in_default c = (last_arm plain_count 4 _ c.in_default.in_default-own.rest (λ h. plain-past _ h), search rules)

pub returns-in-1 : goal.returns-in-1
unfolding plain_count field_count group_of
returns-in-1 c = (row plain_count 1 _ _ refl c.in-1.is, search rules)

pub returns-in-2 : goal.returns-in-2
unfolding plain_count field_count group_of
returns-in-2 c = (row plain_count 2 _ _ refl c.in-2.is, search rules)

pub returns-in-3 : goal.returns-in-3
unfolding plain_count field_count group_of
returns-in-3 c = (row plain_count 3 _ _ refl c.in-3.is, search rules)

pub returns-in-4 : goal.returns-in-4
unfolding plain_count field_count group_of
returns-in-4 c = (row plain_count 4 _ _ refl c.in-4.is, search rules)
