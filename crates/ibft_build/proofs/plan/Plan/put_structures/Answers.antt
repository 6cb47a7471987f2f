-- `Plan::put_structures` meets its contract: the structures passed are written, and the next stands behind them; each loop goes
-- on from what the one before it left. Assumes nothing.
use Rattle.std.proofs.Common.{◌+◌, arith}
use Rattle.octets.proofs.WriteLaws.{length-written}
use Rattle.ibft_layout.specs.Layout.{slot_count}
use Rattle.ibft_build.proofs.PatchLaws.{gather_none}
use Rattle.ibft_build.proofs.StartLaws.{end-grows, extra-turn}
use Rattle.ibft_build.proofs.StructureLaws.{structures-next}
use Rattle.ibft_build.proofs.plan.Plan.put_structures.Goals as goal

pub loop-j-init : goal.loop-j-init
loop-j-init c = gather_none _ _ _ _

pub put_stretch-requires : goal.put_stretch-requires
put_stretch-requires c =
    let l = c.loop-j in
    (omega arith, omega (arith, length-written _ _ _ _ l.invariant, c.requires, end-grows c.args.self.now.entries.range.now (l.j + 1) slot_count (omega arith)))

pub loop-j-preserved : goal.loop-j-preserved
loop-j-preserved c =
    let p = c.args.self.now in
    let l = c.loop-j in
    structures-next _ _ _ _ p.planned.ends-are p.entries.readable.whole _ _ _ l.j (omega arith) l.invariant c.put_stretch.ensures

pub put_extra_stretch-requires : goal.put_extra_stretch-requires
put_extra_stretch-requires c =
    let l = c.loop-j-2 in
    (omega arith, extra-turn l.j (omega arith) (omega arith) (λ m. omega arith), omega (arith, length-written _ _ _ _ l.invariant, c.requires, end-grows c.args.self.now.entries.range.now (l.j + 1) slot_count (omega arith)))

pub loop-j-2-preserved : goal.loop-j-2-preserved
loop-j-2-preserved c =
    let p = c.args.self.now in
    let l = c.loop-j-2 in
    structures-next _ _ _ _ p.planned.ends-are p.entries.readable.whole _ _ _ l.j (omega arith) l.invariant c.put_extra_stretch.ensures

pub put_stretch-requires-in-loop-j-3 : goal.put_stretch-requires-in-loop-j-3
put_stretch-requires-in-loop-j-3 c =
    let l = c.loop-j-3 in
    (omega arith, omega (arith, length-written _ _ _ _ l.invariant, c.requires, end-grows c.args.self.now.entries.range.now (l.j + 1) slot_count (omega arith)))

pub loop-j-3-preserved : goal.loop-j-3-preserved
loop-j-3-preserved c =
    let p = c.args.self.now in
    let l = c.loop-j-3 in
    structures-next _ _ _ _ p.planned.ends-are p.entries.readable.whole _ _ _ l.j (omega arith) l.invariant c.put_stretch-in-loop-j-3.ensures

pub put_extra_stretch-requires-in-loop-j-4 : goal.put_extra_stretch-requires-in-loop-j-4
put_extra_stretch-requires-in-loop-j-4 c =
    let l = c.loop-j-4 in
    (omega arith, extra-turn l.j (omega arith) (omega arith) (λ m. omega arith), omega (arith, length-written _ _ _ _ l.invariant, c.requires, end-grows c.args.self.now.entries.range.now (l.j + 1) slot_count (omega arith)))

pub loop-j-4-preserved : goal.loop-j-4-preserved
loop-j-4-preserved c =
    let p = c.args.self.now in
    let l = c.loop-j-4 in
    structures-next _ _ _ _ p.planned.ends-are p.entries.readable.whole _ _ _ l.j (omega arith) l.invariant c.put_extra_stretch-in-loop-j-4.ensures
