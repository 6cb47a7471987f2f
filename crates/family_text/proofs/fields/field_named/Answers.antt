-- `field_named` meets its contract, family by family. Assumes nothing.
use mathlib.Core.Path.{sym, ap, ◌∙◌}
use Rattle.octets.specs.Counting.{tabulate}
use Rattle.text.specs.Words.{word_number}
use Rattle.family_text.specs.Fields.{Fields, field_named}
use Rattle.family_text.proofs.FieldsLaws.{fields-sbft, fields-abft}
use Rattle.family_text.proofs.fields.field_named.Goals as goal

pub returns-then-family-eq-SBFT : goal.returns-then-family-eq-SBFT
unfolding field_named tabulate
returns-then-family-eq-SBFT c =
    c.word_number.ensures.0 ∙ sym (ap (λ (x : Fields). word_number x.names c.args.name.now) (fields-sbft _ c.if-family-eq-SBFT.true))

pub returns : goal.returns
unfolding field_named tabulate
returns c =
    c.word_number-2.ensures.0 ∙ sym (ap (λ (x : Fields). word_number x.names c.args.name.now) (fields-abft _ c.if-family-eq-SBFT.false))
