-- `field_count` meets its contract, family by family. Assumes nothing.
use mathlib.Core.Path.{sym, ap}
use native.Mathlib.Omega.{arith}
use lib.ListN.{length}
use Rattle.family_text.specs.Fields.{Fields, field_count}
use Rattle.family_text.proofs.FieldsLaws.{fields-sbft, fields-abft}
use Rattle.family_text.proofs.fields.field_count.Goals as goal

pub returns-then-family-eq-SBFT : goal.returns-then-family-eq-SBFT
unfolding field_count
returns-then-family-eq-SBFT c = (sym (ap (λ (x : Fields). length x.layout) (fields-sbft _ c.if-family-eq-SBFT.true)), omega arith)

pub returns : goal.returns
unfolding field_count
returns c = (sym (ap (λ (x : Fields). length x.layout) (fields-abft _ c.if-family-eq-SBFT.false)), omega arith)
