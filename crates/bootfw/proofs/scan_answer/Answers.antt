-- `scan_answer` meets its contract: an address in the window fits its bits, so the parts can be told from the number.
-- Assumes nothing.
use native.Mathlib.Omega.{arith}
use Rattle.scan.proofs.ScanLaws.{address_below}
use Rattle.bootfw.proofs.scan_answer.Goals as goal

pub overflow_cast-found : goal.overflow_cast-found
overflow_cast-found c =
    let found = c.scan_for-found in
    omega (arith, c.requires, address_below _ _ _ found.result found.ensures)

pub packed-requires : goal.packed-requires
packed-requires c =
    let found = c.scan_for-found in
    omega (arith, c.requires, address_below _ _ _ found.result found.ensures)

pub returns : goal.returns
returns c =
    let found = c.scan_for-found in
    record { answer = rw (← found.ensures.answer-is) c.packed.ensures; promise = rw (← found.ensures.answer-is) found.ensures }
