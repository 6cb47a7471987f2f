use Rattle.std.proofs.Common.{◌≡◌, ℕ, ◌+◌, ◌*◌, ◌<◌}
use Rattle.octets.specs.Octets.{byte}
use Rattle.notation.proofs.pairs.pairs_form.Given as goal

abbrev pub invariant-loop-k : goal.invariant-loop-k
invariant-loop-k l = (j : ℕ) → j < l.k → byte l.s (3 * j + 2) ≡ 58
