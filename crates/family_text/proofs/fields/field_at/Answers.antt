-- `field_at` meets its contract, family by family. Assumes nothing.
use mathlib.Core.Path.{sym, ap, ◌∙◌}
use lib.ListN.{get_or}
use Rattle.family_text.specs.Fields.{Fields, field, field_of}
use Rattle.family_text.specs.declared.fields.Notation.TheVariants.{Oem}
use Rattle.family_text.proofs.FieldsLaws.{fields-sbft, fields-abft}
use Rattle.family_text.proofs.fields.field_at.Goals as goal

pub returns-then-family-eq-SBFT : goal.returns-then-family-eq-SBFT
unfolding field_of
returns-then-family-eq-SBFT c =
    c.sbft_field.ensures ∙ sym (ap (λ (x : Fields). get_or x.layout c.args.n (field Oem 0 10 6)) (fields-sbft _ c.if-family-eq-SBFT.true))

pub returns : goal.returns
unfolding field_of
returns c =
    c.abft_field.ensures ∙ sym (ap (λ (x : Fields). get_or x.layout c.args.n (field Oem 0 10 6)) (fields-abft _ c.if-family-eq-SBFT.false))
