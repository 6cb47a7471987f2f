-- `Source::put_extras` meets its contract: the extras of the slots passed are written. Assumes nothing.
use mathlib.Core.Path.{refl}
use Prim.Native.Nat.{◌+◌}
use native.Mathlib.Omega.{arith}
use Rattle.octets.proofs.WriteLaws.{length-written}
use Rattle.ibft_build_rules.specs.Rebuild.{extra_in}
use Rattle.ibft_build.proofs.StructureLaws.{entries_below}
use Rattle.ibft_rebuild.proofs.RangeWriteLaws.{wrote_none, wrote-next, wrote-done, extra-most}
use Rattle.ibft_rebuild.proofs.range.Source.put_extras.Goals as goal

pub loop-i-init : goal.loop-i-init
loop-i-init c = record { within = omega arith; same_length = refl; wrote = wrote_none _ _ _ _ }

pub overflow_mul-count : goal.overflow_mul-count
overflow_mul-count c =
    let p = c.requires in
    let a = c.args in
    let i = c.loop-i.i in
    omega (arith, p.1, (p.2 i (omega arith)).0, entries_below (a.slot + i) (omega (arith, p.1)))

pub overflow_add-first : goal.overflow_add-first
overflow_add-first c =
    let p = c.requires in
    let a = c.args in
    let i = c.loop-i.i in
    omega (arith, p.1, (p.2 i (omega arith)).0, entries_below (a.slot + i) (omega (arith, p.1)))

pub loop-i-preserved : goal.loop-i-preserved
loop-i-preserved c =
    let p = c.requires in
    let l = c.loop-i in
    let a = c.args in
    let put = c.put_extra-end.ensures in
    let next = wrote-next _ _ (extra_in a.self.now.starts.now a.self.now.table.now) a.slot l.i (a.slot + l.i) _ _ _ _ l.invariant.wrote refl put in
    record {
      within = omega (arith, put.ends, extra-most a.self.now.starts.now a.self.now.table.now (a.slot + l.i) (omega (arith, p.1)));
      same_length = length-written _ _ _ _ next.bytes;
      wrote = next;
    }

pub returns : goal.returns
returns c =
    let l = c.loop-i in
    wrote-done _ _ _ _ l.i _ _ _ l.invariant.wrote (omega arith)
