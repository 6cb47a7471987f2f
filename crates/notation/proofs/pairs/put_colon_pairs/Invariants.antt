use Rattle.std.proofs.Common.{◌≡◌, ◌-◌, ◌≤◌, length}
use Rattle.text.specs.Put.{Puts}
use Rattle.notation.specs.Pairs.{colon_pairs}
use Rattle.notation.proofs.pairs.put_colon_pairs.Given as goal

-- (Where n is 0 the loop leaves k at 1.)
abbrev pub invariant-loop-k : goal.invariant-loop-k
invariant-loop-k l = (l.k - 1 ≤ l.n - 1) × (length l.room ≡ length l.initial.room) × Puts l.initial.room l.room l.at l.end (colon_pairs l.bytes (l.k - 1))
