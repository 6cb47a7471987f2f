-- `owner_of` meets its contract: by number, by arithmetic, or past the last. Assumes nothing.
use mathlib.Core.Path.{sym, ◌∙◌}
use native.Mathlib.Omega.{arith}
use borrow.Author.Tests.{lt-ltb, le-ltb}
use Rattle.ibft_layout.specs.Layout.{named_entries, target_entries}
use Rattle.ibft_layout.proofs.LayoutLaws.{owner-extra, owner-past}
use Rattle.ibft_layout.proofs.layout.owner_of.Goals as goal

pub returns-then-n-2 : goal.returns-then-n-2
returns-then-n-2 c =
    let n = c.args.n in
    sym (owner-extra n (omega arith) ∙ rw (le-ltb n named_entries (omega arith), lt-ltb n target_entries (omega arith)))

pub returns-then-n-3 : goal.returns-then-n-3
returns-then-n-3 c =
    let n = c.args.n in
    sym (owner-extra n (omega arith) ∙ rw (le-ltb n named_entries (omega arith), le-ltb n target_entries (omega arith)))

pub returns : goal.returns
returns c =
    let n = c.args.n in
    sym (owner-past n (omega arith))
