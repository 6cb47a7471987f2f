-- `alien_control` meets its contract: each test alone settles it. Assumes nothing.
use mathlib.Core.Bool.{or-true}
use native.Mathlib.Omega.{arith}
use borrow.Author.Tests.{eq-eqb, ne_eqb}
use Rattle.octets.specs.Octets.{byte}
use Rattle.ibft_table.specs.Check.{alien_control}
use Rattle.ibft_table.proofs.check_control.alien_control.Goals as goal

pub returns-then-byte_at-ne-ID : goal.returns-then-byte_at-ne-ID
unfolding alien_control
returns-then-byte_at-ne-ID c = simp (ne_eqb (byte c.args.table.t.now 48) 1 (omega arith))

pub returns-then-byte_at-ne-VERSION : goal.returns-then-byte_at-ne-VERSION
unfolding alien_control
returns-then-byte_at-ne-VERSION c = simp (ne_eqb (byte c.args.table.t.now 49) 1 (omega arith), or-true)

pub returns-then-byte_at-ne0 : goal.returns-then-byte_at-ne0
unfolding alien_control
returns-then-byte_at-ne0 c =
    simp (ne_eqb (byte c.args.table.t.now 52) 0 (omega arith), or-true)

pub returns : goal.returns
unfolding alien_control
returns c =
    let a = c.args in
    let t = a.table.t.now in
    simp (eq-eqb (byte t 48) 1 (omega arith), eq-eqb (byte t 49) 1 (omega arith), eq-eqb (byte t 52) 0 (omega arith))
    c.misfit.ensures
