use Rattle.std.proofs.Common.{◌≡◌, ℕ, ◌<◌, false}
use lib.Dec.{eqb}
use Rattle.record_text.specs.Fields.{field_of}
use Rattle.difference_text.proofs.field_number.Given as goal

abbrev pub invariant-loop-n : goal.invariant-loop-n
invariant-loop-n l = (j : ℕ) → j < l.n → eqb (field_of l.kind j).at l.at ≡ false
