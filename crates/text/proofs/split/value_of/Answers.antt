-- `value_of` meets its contract: what is left of the bytes behind the field, at the place that it has in the line. Assumes
-- nothing.
use mathlib.Core.Path.{sym, ◌∙◌}
use native.Mathlib.Omega.{arith}
use Rattle.text.proofs.SplitLaws.{before-le, trim-part, value-part, value-rest, value-place}
use Rattle.text.proofs.split.value_of.Goals as goal

pub returns : goal.returns
returns c =
    let line = c.args.line.now in
    let size = c.field_size-size in
    let shown = c.trimmed.ensures.shows (before-le _ _) in
    let bytes = shown.bytes ∙ trim-part _ ∙ value-rest line size.result size.ensures.0 ∙ sym (value-part line) in
    record {
      bytes = bytes;
      shows = λ h. record { bytes = bytes; block = shown.block; place = omega (arith, shown.place, value-place line size.result size.ensures.0) };
    }
