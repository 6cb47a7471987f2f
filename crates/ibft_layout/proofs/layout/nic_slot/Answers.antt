-- `nic_slot` meets its contract, arm by arm. Assumes nothing.
use Rattle.std.proofs.Common.{◌+◌, ◌-◌, sym, refl, arith}
use Rattle.octets.specs.Counting.{tabulate}
use Rattle.ibft_layout.specs.Layout.{nic_slot}
use Rattle.ibft_layout.proofs.LayoutLaws.{rows, nic-past}
use Rattle.ibft_layout.proofs.layout.nic_slot.Goals as goal

pub returns-in-2-to-7 : goal.returns-in-2-to-7
unfolding tabulate nic_slot
returns-in-2-to-7 c = rows (λ n. 5 + (n - 2)) nic_slot 2 6 refl c.args.n (omega arith) (omega arith)

pub returns-in_default : goal.returns-in_default
returns-in_default c = sym (nic-past c.args.n (omega arith))
