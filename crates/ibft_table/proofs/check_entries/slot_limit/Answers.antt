-- `slot_limit` meets its contract: no slot from `limit` up to k is in use. Assumes nothing.
use Rattle.std.proofs.Common.{arith}
use native.Mathlib.Decide.{dec_lt}
use lib.ListN.{get_or-eq_default}
use Rattle.ibft_table.specs.Table.{start_in}
use Rattle.ibft_table.proofs.check_entries.slot_limit.Goals as goal

pub returns : goal.returns
unfolding start_in
returns c =
    let l = c.loop-k in (
      omega arith,
      omega arith,
      λ j h.
          elim (dec_lt j l.k) [
            | yes m ↦ l.invariant.2 j h m
            | no m ↦ get_or-eq_default c.args.starts.now 0 (omega arith)
          ],
    )
