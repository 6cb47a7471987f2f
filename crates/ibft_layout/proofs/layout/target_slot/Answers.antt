-- `target_slot` meets its contract, arm by arm. Assumes nothing.
use Rattle.std.proofs.Common.{◌+◌, ◌-◌, sym, refl, arith}
use Rattle.octets.specs.Counting.{tabulate}
use Rattle.ibft_layout.specs.Layout.{target_slot}
use Rattle.ibft_layout.proofs.LayoutLaws.{rows, target_past}
use Rattle.ibft_layout.proofs.layout.target_slot.Goals as goal

pub returns-in-2-to-7 : goal.returns-in-2-to-7
unfolding tabulate target_slot
returns-in-2-to-7 c = rows (λ n. 11 + (n - 2)) target_slot 2 6 refl c.args.n (omega arith) (omega arith)

pub returns-in_default : goal.returns-in_default
returns-in_default c = sym (target_past c.args.n (omega arith))
