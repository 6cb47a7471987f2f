use mathlib.Core.Path.{◌≡◌}
use mathlib.Core.Bool.{false}
use Prim.Native.Nat.{ℕ, ◌+◌, ◌<◌}
use lib.Dec.{ltb}
use Rattle.octets.specs.Octets.{byte}
use Rattle.ibft_record.proofs.refusals_range.has_bad_mark.Given as goal

abbrev pub invariant-loop-i : goal.invariant-loop-i
invariant-loop-i l = ((j : ℕ) → j < l.i → ltb 1 (byte l.range (l.at + j)) ≡ false)
