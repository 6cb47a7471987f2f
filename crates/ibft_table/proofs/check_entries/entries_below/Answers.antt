-- `entries_below` meets its contract, by arithmetic. Assumes nothing.
use native.Mathlib.Omega.{arith}
use Rattle.ibft_layout.proofs.LayoutLaws.{entries-nic, entries-target}
use Rattle.ibft_table.proofs.check_entries.entries_below.Goals as goal

pub returns-then-k-le-EXTRA_TARGETS : goal.returns-then-k-le-EXTRA_TARGETS
returns-then-k-le-EXTRA_TARGETS c = (omega arith, λ n h. entries-nic c.args.k n (omega arith) (omega arith) h)

pub returns : goal.returns
returns c = (omega arith, λ n h. entries-target c.args.k n (omega arith) (omega arith) h)
