-- `named_end_if_used` meets its contract. Assumes nothing.
use native.Mathlib.Omega.{arith}
use borrow.Author.Tests.{eq-eqb, ne_eqb}
use Rattle.ibft_table.specs.Table.{start_at, used_at}
use Rattle.ibft_table.proofs.check_entries.named_end_if_used.Goals as goal

pub returns-then-start_at-eq0 : goal.returns-then-start_at-eq0
unfolding used_at
returns-then-start_at-eq0 c =
    rw (eq-eqb (start_at c.args.t.now c.args.w) 0 (omega arith))

pub returns-else-start_at-eq0 : goal.returns-else-start_at-eq0
unfolding used_at
returns-else-start_at-eq0 c =
    rw (ne_eqb (start_at c.args.t.now c.args.w) 0 (omega arith)) c.named_end.ensures
