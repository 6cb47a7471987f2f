-- The longest run of all groups is the best so far, or the longest of those left where that is longer. Assumes nothing.
use Rattle.std.proofs.Common.{◌≡◌, ◌+◌, ◌-◌}
use Rattle.notation.specs.Address.{longer, longest}
use Rattle.notation.proofs.address.longest_run.Given as goal

abbrev pub invariant-loop-j : goal.invariant-loop-j
invariant-loop-j l = longer l.best (longest l.a (l.k + l.j) (l.n - l.j)) ≡ longest l.a l.k l.n
