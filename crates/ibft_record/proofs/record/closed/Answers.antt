-- `closed` meets its contract: k itself up to the last extra NIC, else less by those that are not in use. Assumes nothing.
use Prim.Native.Nat.{◌+◌}
use native.Mathlib.Omega.{arith}
use borrow.Author.Tests.{lt-ltb, le-ltb}
use Rattle.ibft_layout.specs.Layout.{closed}
use Rattle.ibft_record.proofs.record.closed.Goals as goal

pub returns-then-k-first : goal.returns-then-k-first
unfolding closed
returns-then-k-first c =
    let a = c.args in
    rw (lt-ltb a.k (a.first + 6) (omega arith))

pub returns-then-nics-ge-EXTRA_MOST : goal.returns-then-nics-ge-EXTRA_MOST
unfolding closed
returns-then-nics-ge-EXTRA_MOST c =
    let a = c.args in
    rw (le-ltb a.k (a.first + 6) (omega arith)) (omega arith)

pub returns : goal.returns
unfolding closed
returns c =
    let a = c.args in
    rw (le-ltb a.k (a.first + 6) (omega arith))
