-- `find` meets its contract: no place below k is sound, and k is a multiple of 16 from the address on. Assumes nothing.
use Rattle.std.proofs.Common.{sym, ◌∙◌, arith}
use Rattle.scan.proofs.ScanLaws.{unaligned, sixteen-more, lowest-at, lowest-none}
use Rattle.scan.proofs.find.Goals as goal

pub loop-k-init : goal.loop-k-init
loop-k-init c =
    let a = c.args in
    (omega arith, λ i h. unaligned a.f a.mem.now a.address i (omega arith))

pub returns-then-sound : goal.returns-then-sound
returns-then-sound c =
    let a = c.args in
    let l = c.loop-k in
    lowest-at a.f a.mem.now a.address l.k (omega arith) (sym c.sound.ensures ∙ c.if-sound.true) l.invariant.1

pub loop-k-preserved : goal.loop-k-preserved
loop-k-preserved c =
    let a = c.args in
    let l = c.loop-k in
    (omega arith, sixteen-more a.f a.mem.now a.address l.k l.invariant.0 (sym c.sound.ensures ∙ c.if-sound.false) l.invariant.1)

pub returns-then-mem-k : goal.returns-then-mem-k
returns-then-mem-k c =
    let a = c.args in
    lowest-none a.f a.mem.now a.address c.loop-k.k (omega arith) c.loop-k.invariant.1
