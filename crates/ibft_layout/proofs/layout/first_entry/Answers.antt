-- `first_entry` meets its contract: by number, or by arithmetic for the extras and past the last slot. Assumes nothing.
use mathlib.Core.Path.{◌≡◌, sym, ap}
use Prim.Native.Nat.{ℕ}
use native.Mathlib.Omega.{arith}
use Rattle.octets.specs.Counting.{sum_to}
use Rattle.ibft_layout.specs.Layout.{first_entry, kind_of}
use Rattle.ibft_layout.proofs.LayoutLaws.{last_arm, first-nic, first-target, first_past}
use Rattle.ibft_layout.proofs.layout.first_entry.Goals as goal

-- number m, where k is m
row : (m k : ℕ) → k ≡ m → first_entry m ≡ first_entry k
row m k e = ap first_entry (sym e)

pub returns-then-k-ge-SLOT_COUNT : goal.returns-then-k-ge-SLOT_COUNT
returns-then-k-ge-SLOT_COUNT c = first_past c.args.k (omega arith)

pub returns-then-k-ge-EXTRA_TARGETS : goal.returns-then-k-ge-EXTRA_TARGETS
returns-then-k-ge-EXTRA_TARGETS c = first-target c.args.k (omega arith) (omega arith)

pub returns-then-k-ge-EXTRA_NICS : goal.returns-then-k-ge-EXTRA_NICS
returns-then-k-ge-EXTRA_NICS c = first-nic c.args.k (omega arith) (omega arith)

pub returns-in_default : goal.returns-in_default
unfolding first_entry sum_to kind_of
returns-in_default c = last_arm first_entry 4 _ c.in_default.in_default-own.rest (λ h. absurd (omega arith))
