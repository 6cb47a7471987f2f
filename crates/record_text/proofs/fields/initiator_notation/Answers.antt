-- `initiator_notation` meets its contract, number by number. Assumes nothing.
use mathlib.Core.Path.{refl}
use Rattle.ibft_layout.proofs.LayoutLaws.{last_arm}
use Rattle.record_text.specs.Fields.{initiator, notation_in}
use Rattle.record_text.proofs.FieldsLaws.{row, notation-past}
use Rattle.record_text.proofs.fields.initiator_notation.Goals as goal

pub returns-in_default : goal.returns-in_default
unfolding notation_in
returns-in_default c = last_arm (notation_in initiator) 5 _ c.in_default.in_default-own.rest (λ h. notation-past initiator _ h)

pub returns-in-1 : goal.returns-in-1
unfolding notation_in
returns-in-1 c = row (notation_in initiator) 1 _ _ refl c.in-1.is

pub returns-in-2 : goal.returns-in-2
unfolding notation_in
returns-in-2 c = row (notation_in initiator) 2 _ _ refl c.in-2.is

pub returns-in-3 : goal.returns-in-3
unfolding notation_in
returns-in-3 c = row (notation_in initiator) 3 _ _ refl c.in-3.is

pub returns-in-4 : goal.returns-in-4
unfolding notation_in
returns-in-4 c = row (notation_in initiator) 4 _ _ refl c.in-4.is

pub returns-in-5 : goal.returns-in-5
unfolding notation_in
returns-in-5 c = row (notation_in initiator) 5 _ _ refl c.in-5.is
