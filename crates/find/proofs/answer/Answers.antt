-- `answer` is safe: where the scan does not refuse with 1, the memory ends in the window, so that the address of each of its
-- bytes is a number of 64 bits. Assumes nothing.
use Prim.Native.Nat.{◌+◌, ◌<◌}
use native.Mathlib.Omega.{arith}
use lib.ListN.{length}
use Rattle.scan.specs.Scan.{ibft}
use Rattle.find.proofs.answer.Goals as goal

pub tell_zeros-requires : goal.tell_zeros-requires
tell_zeros-requires c =
    let a = c.args in
    let scan = c.scan_for-scanned in
    let within : (ibft.high < a.address + length a.memory.now → ⊥) = λ h. c.if-scanned-eq1.false (scan.ensures.above.1 h) in
    omega (arith, within)
