-- `put_name` meets its contract, family by family. Assumes nothing.
use mathlib.Core.Path.{sym, ap, ◌∙◌}
use Rattle.octets.specs.Counting.{tabulate}
use Rattle.text.specs.Words.{word_at}
use Rattle.text.proofs.PutLaws.{puts-same}
use Rattle.family_text.specs.Fields.{Fields, name_of}
use Rattle.family_text.proofs.FieldsLaws.{fields-sbft, fields-abft}
use Rattle.family_text.proofs.fields.put_name.Goals as goal

pub returns-then-family-eq-SBFT : goal.returns-then-family-eq-SBFT
unfolding name_of tabulate
returns-then-family-eq-SBFT c =
    puts-same c.put_text.ensures
    (c.word_at.ensures ∙ sym (ap (λ (x : Fields). word_at x.names c.args.n) (fields-sbft _ c.if-family-eq-SBFT.true)))

pub returns : goal.returns
unfolding name_of tabulate
returns c =
    puts-same c.put_text-2.ensures
    (c.word_at-2.ensures ∙ sym (ap (λ (x : Fields). word_at x.names c.args.n) (fields-abft _ c.if-family-eq-SBFT.false)))
