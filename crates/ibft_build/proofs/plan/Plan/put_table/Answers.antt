-- `Plan::put_table` meets its contract: the checksum is set last. Assumes nothing.
use Rattle.std.proofs.Common.{arith}
use Rattle.ibft_build.proofs.PlanLaws.{known}
use Rattle.ibft_build.proofs.TableLaws.{bare-length, table_is}
use Rattle.ibft_build.proofs.plan.Plan.put_table.Goals as goal

pub returns : goal.returns
returns c =
    let p = c.args.self.now in
    let plan = p.planned in
    let k = known _ _ _ _ _ _ _ _ plan in
    table_is _ _ _ _ _ (bare-length _ _ p.entries.readable _ _ _ plan.ends-are plan.wanted-are plan.offsets_are)
    (omega (arith, k.whole, k.low, plan.length-is)) (omega (arith, plan.length-is)) plan.length-is c.put_bare.ensures
    c.put_checksum.ensures
