-- `put_bytes` meets its contract: the first k bytes are written, and all that fit at the end. Assumes nothing.
use Rattle.std.proofs.Common.{sym, refl, arith}
use Rattle.octets.proofs.WriteLaws.{write-nothing, length-written, loop-more, loop-done}
use Rattle.octets.proofs.write.put_bytes.Goals as goal

pub loop-k-init : goal.loop-k-init
loop-k-init c = (refl, sym (write-nothing _ _))

pub loop-k-preserved : goal.loop-k-preserved
loop-k-preserved c =
    let a = c.args in
    let l = c.loop-k in
    let next = loop-more a.t.now a.at a.s.now l.t l.k l.invariant.1 _ refl (omega arith) in
    (length-written _ _ _ _ next, next)

pub returns : goal.returns
returns c =
    let l = c.loop-k in
    loop-done _ _ _ l.t l.k l.invariant.1 (omega arith)
