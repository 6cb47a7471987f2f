-- `structure_given` meets its contract: the mark of a named slot decides, and of an extra how many there are. Assumes nothing.
use mathlib.Core.Path.{sym, ◌∙◌, ap}
use Prim.Native.Nat.{ℕ}
use lib.Dec.{eqb, ltb}
use native.Mathlib.Omega.{arith}
use Rattle.ibft_build_rules.proofs.RecordRangeLaws.{given-named, given-nic, given-target, given-past}
use Rattle.ibft_build_rules.proofs.range.structure_given.Goals as goal

pub returns-then-k-lt-NAMED_COUNT : goal.returns-then-k-lt-NAMED_COUNT
returns-then-k-lt-NAMED_COUNT c = ap (λ (b : ℕ). eqb b 1) c.byte_at.ensures ∙ given-named _ _ (omega arith)

pub returns-then-k-lt-EXTRA_TARGETS : goal.returns-then-k-lt-EXTRA_TARGETS
returns-then-k-lt-EXTRA_TARGETS c = ap (ltb _) c.nics_given.ensures ∙ given-nic _ _ (omega arith) (omega arith)

pub returns-then-k-lt-SLOT_COUNT : goal.returns-then-k-lt-SLOT_COUNT
returns-then-k-lt-SLOT_COUNT c = ap (ltb _) c.targets_given.ensures ∙ given-target _ _ (omega arith) (omega arith)

pub returns : goal.returns
returns c = sym (given-past _ _ (omega arith))
