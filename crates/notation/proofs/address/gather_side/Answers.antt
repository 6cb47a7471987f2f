-- `gather_side` meets its contract: nothing, or groups. Assumes nothing.
use native.Mathlib.Omega.{arith}
use Rattle.text.proofs.PutLaws.{puts-nothing}
use Rattle.notation.proofs.GatherLaws.{gathers-some, side-none, side-some}
use Rattle.notation.proofs.address.gather_side.Goals as goal

pub returns-then-s-eq0 : goal.returns-then-s-eq0
returns-then-s-eq0 c =
    let a = c.args in
    gathers-some (puts-nothing a.room.now 0 (omega arith)) (side-none a.four a.s.now (omega arith))

pub returns : goal.returns
returns c =
    let a = c.args in
    rw (side-some a.four a.s.now (λ e. omega arith)) c.gather_groups.ensures
