-- `entry_limit` meets its contract. Assumes nothing.
use native.Mathlib.Omega.{arith}
use Rattle.ibft_layout.specs.Layout.{owner_of}
use Rattle.ibft_layout.proofs.LayoutLaws.{owner-later}
use Rattle.ibft_table.proofs.check_entries.entry_limit.Goals as goal

pub returns-then-words-eq-NAMED_COUNT : goal.returns-then-words-eq-NAMED_COUNT
returns-then-words-eq-NAMED_COUNT c =
    (omega arith, λ n h. (owner-later n h, c.requires.1 c.if-words-eq-NAMED_COUNT.true (owner_of n) (owner-later n h)))
