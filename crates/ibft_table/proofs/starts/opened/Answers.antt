-- `opened` meets its contract. Assumes nothing.
use native.Mathlib.Omega.{arith}
use borrow.Author.Tests.{lt-ltb, le-ltb}
use Prim.Native.Nat.{◌+◌}
use Rattle.ibft_layout.specs.Layout.{opened}
use Rattle.ibft_table.proofs.starts.opened.Goals as goal

pub returns-then-number-first : goal.returns-then-number-first
unfolding opened
returns-then-number-first c =
    let a = c.args in
    rw (lt-ltb a.number (a.first + a.nics) (omega arith))

pub returns : goal.returns
unfolding opened
returns c =
    let a = c.args in
    rw (le-ltb a.number (a.first + a.nics) (omega arith))
