use Rattle.std.proofs.Common.{◌≡◌, ◌+◌, ◌≤◌, drop}
use Rattle.notation.specs.Number.{below, value_from, numeral_up_to}
use Rattle.notation.proofs.number.read_numeral.Given as goal

abbrev pub invariant-loop-b : goal.invariant-loop-b
invariant-loop-b l = (l.n ≤ l.max) × (below (l.max + 1) (value_from l.base l.n (drop l.b-index l.s)) ≡ numeral_up_to l.base l.max l.s)
