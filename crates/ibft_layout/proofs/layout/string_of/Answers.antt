-- `string_of` meets its contract: by number, by arithmetic, or past the last. Assumes nothing.
use mathlib.Core.Path.{sym, ap, ◌∙◌}
use native.Mathlib.Omega.{arith}
use borrow.Author.Tests.{lt-ltb, le-ltb}
use Rattle.ibft_layout.specs.Layout.{named_entries, target_entries}
use Rattle.ibft_layout.specs.Shapes.{string_shape}
use Rattle.ibft_layout.proofs.LayoutLaws.{string-extra, string-past}
use Rattle.ibft_layout.proofs.layout.string_of.Goals as goal

pub returns-then-n : goal.returns-then-n
returns-then-n c = c.named_string.ensures

pub returns-then-n-2 : goal.returns-then-n-2
returns-then-n-2 c =
    let n = c.args.n in
    sym (ap string_shape (string-extra n (omega arith)) ∙ rw (le-ltb n named_entries (omega arith), lt-ltb n target_entries (omega arith)))

pub returns-then-n-3 : goal.returns-then-n-3
returns-then-n-3 c =
    let n = c.args.n in
    c.target_string.ensures ∙ sym (ap string_shape (string-extra n (omega arith))
    ∙ rw (le-ltb n named_entries (omega arith), le-ltb n target_entries (omega arith)))

pub returns : goal.returns
returns c =
    let n = c.args.n in
    sym (ap string_shape (string-past n (omega arith)))
