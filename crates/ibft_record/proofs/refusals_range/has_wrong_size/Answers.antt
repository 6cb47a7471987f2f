-- `has_wrong_size` meets its contract: one of the two sizes is enough. Assumes nothing.
use mathlib.Core.Path.{ap}
use Prim.Native.Nat.{ℕ}
use native.Mathlib.Omega.{arith}
use lib.ListN.{length}
use borrow.Author.Tests.{eq-eqb, ne_eqb}
use Rattle.octets.specs.Octets.{differs}
use Rattle.ibft_build_rules.specs.RecordRange.{base_size}
use Rattle.ibft_record.proofs.refusals_range.has_wrong_size.Goals as goal

pub returns-then-range : goal.returns-then-range
returns-then-range c = simp (eq-eqb (length c.args.range.now) base_size (omega arith))

pub returns : goal.returns
returns c =
    let r = c.args.range.now in
    simp (ne_eqb (length r) base_size (omega arith)) (ap (λ (n : ℕ). differs (length r) n) c.range_size.ensures)
