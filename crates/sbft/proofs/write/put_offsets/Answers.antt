-- `put_offsets` meets its contract: the offsets of the parts below k are written. Assumes nothing.
use mathlib.Core.Path.{◌≡◌, refl, sym}
use native.Mathlib.Omega.{arith}
use Rattle.octets.specs.Counting.{gather}
use Rattle.octets.specs.Octets.{write}
use Rattle.octets.proofs.WriteLaws.{write-nothing, length-written}
use Rattle.sbft.specs.Layout.{part_of}
use Rattle.sbft.specs.Write.{word_written}
use Rattle.sbft.proofs.PutLaws.{offsets-more}
use Rattle.sbft.proofs.write.put_offsets.Goals as goal

pub loop-k-init : goal.loop-k-init
unfolding gather
loop-k-init c = (refl, sym (write-nothing _ _))

pub loop-k-preserved : goal.loop-k-preserved
unfolding word_written
loop-k-preserved c =
    let a = c.args in
    let l = c.loop-k in
    let offset = c.offset_written.ensures in
    let part = c.part_of.ensures in
    let put : c.put_u16.new.t ≡ write l.room (part_of l.k).word
    (word_written a.image.now l.k) = rw (part, offset) at c.put_u16.ensures in
    let next = offsets-more a.image.now a.room.now l.room _ l.k (omega arith) l.invariant.1 put in
    (length-written _ _ _ _ next, next)
