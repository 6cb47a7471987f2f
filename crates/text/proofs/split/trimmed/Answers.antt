-- `trimmed` meets its contract: it shows what is left from the first byte on that is no blank. Assumes nothing.
use mathlib.Core.Path.{◌≡◌, ◌∙◌}
use lib.ListN.{length}
use Rattle.text.specs.Split.{trim}
use Rattle.text.proofs.SplitLaws.{trim-rest}
use Rattle.text.proofs.split.trimmed.Goals as goal

pub returns : goal.returns
returns c =
    let s = c.args.s.now in
    let start = c.blanks-start in
    let size : c.trimmed_size-size.result ≡ length (trim s) = c.trimmed_size-size.ensures
    ∙ trim-rest s start.result start.ensures.0 in
    rw (start.ensures.0, size) at c.part.ensures
