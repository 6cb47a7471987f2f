-- `Plan::put_bare` meets its contract: each piece stands right behind the one before. Assumes nothing.
use Rattle.std.proofs.Common.{refl, arith, length-take, length-drop}
use Rattle.octets.proofs.WriteLaws.{length-written}
use Rattle.ibft_build.proofs.PlanLaws.{known}
use Rattle.ibft_build.proofs.TableLaws.{bare-is}
use Rattle.ibft_build.proofs.plan.Plan.put_bare.Goals as goal

pub put_front-requires : goal.put_front-requires
put_front-requires c =
    let k = known _ _ _ _ _ _ _ _ c.args.self.now.planned in
    omega (arith, k.whole, k.low)

pub put_structures-requires : goal.put_structures-requires
put_structures-requires c =
    let k = known _ _ _ _ _ _ _ _ c.args.self.now.planned in
    omega (arith, k.whole, k.end, length-written _ _ _ _ c.put_front.ensures)

pub slice_bounds-put_heap-count : goal.slice_bounds-put_heap-count
slice_bounds-put_heap-count c =
    let k = known _ _ _ _ _ _ _ _ c.args.self.now.planned in
    omega (arith, k.whole)

pub slice_bounds-put_heap-start : goal.slice_bounds-put_heap-start
slice_bounds-put_heap-start c =
    let k = known _ _ _ _ _ _ _ _ c.args.self.now.planned in
    omega (arith, k.whole)

pub put_heap-requires : goal.put_heap-requires
put_heap-requires c =
    let k = known _ _ _ _ _ _ _ _ c.args.self.now.planned in
    let front = length-written _ _ _ _ c.put_front.ensures in
    let structures = length-written _ _ _ _ c.put_structures.ensures in
    simp (length-take, length-drop) (omega (arith, k.whole))

pub returns : goal.returns
returns c =
    let p = c.args.self.now in
    let k = known _ _ _ _ _ _ _ _ p.planned in
    bare-is _ _ p.entries.readable _ _ _ p.planned.ends-are p.planned.wanted-are p.planned.offsets_are _ _ _ _ _ _ _
    (omega (arith, p.planned.length-is)) p.planned.length-is
    c.put_front.ensures c.put_structures.ensures
    k.start refl c.put_heap.ensures
