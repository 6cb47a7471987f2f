-- `Plan::put_entry` meets its contract: a stored entry is two writes, any other none. Assumes nothing.
use Rattle.std.proofs.Common.{arith}
use Rattle.ibft_build.proofs.PlaceLaws.{sizes-at, size-lies}
use Rattle.ibft_build.proofs.HeapLaws.{entry-put, entry_kept}
use Rattle.ibft_build.proofs.plan.Plan.put_entry.Goals as goal

pub bytes-requires : goal.bytes-requires
bytes-requires c =
    let p = c.args.self.now in
    (c.requires.1, (size-lies _ _ c.args.n p.entries.readable (omega arith) _ (sizes-at _ _ _ p.planned.sizes-are c.args.n (omega arith)) (omega arith)).given)

pub returns-then-size-ne0 : goal.returns-then-size-ne0
returns-then-size-ne0 c =
    let p = c.args.self.now in
    entry-put _ _ p.entries.readable _ (omega arith) _ (sizes-at _ _ _ p.planned.sizes-are c.args.n (omega arith)) _ _ (omega arith) _ _ _
    c.bytes.ensures c.put_bytes.ensures c.put_byte.ensures

pub returns-else-size-ne0 : goal.returns-else-size-ne0
returns-else-size-ne0 c =
    let p = c.args.self.now in
    entry_kept _ _ p.entries.readable _ (omega arith) _ (sizes-at _ _ _ p.planned.sizes-are c.args.n (omega arith)) _ _ (omega arith)
