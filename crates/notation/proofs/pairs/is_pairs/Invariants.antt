use Rattle.std.proofs.Common.{◌≡◌, ℕ, ◌*◌, ◌<◌}
use Rattle.std.specs.Prelude.{Some}
use Rattle.notation.specs.Number.{hex_byte_at}
use Rattle.notation.specs.Pairs.{pair_at}
use Rattle.notation.proofs.pairs.is_pairs.Given as goal

abbrev pub invariant-loop-k : goal.invariant-loop-k
invariant-loop-k l = (j : ℕ) → j < l.k → hex_byte_at l.s (3 * j) ≡ Some (pair_at l.s (3 * j))
