-- `start_in` meets its contract: past the last slot nothing starts. Assumes nothing.
use mathlib.Core.Path.{sym}
use native.Mathlib.Omega.{arith}
use lib.ListN.{get_or-eq_default}
use Rattle.ibft_table.specs.Table.{start_in}
use Rattle.ibft_table.proofs.starts.start_in.Goals as goal

pub returns-then-k-starts : goal.returns-then-k-starts
unfolding start_in
returns-then-k-starts c = cc

pub returns : goal.returns
unfolding start_in
returns c = sym (get_or-eq_default c.args.starts.now 0 (omega arith))
