use Rattle.std.proofs.Common.{◌≡◌, drop}
use Rattle.table_header.specs.Header.{padded}
use Rattle.table_header.proofs.header.is_padded.Given as goal

abbrev pub invariant-loop-i : goal.invariant-loop-i
invariant-loop-i l = padded (drop l.i l.s) ≡ padded l.s
