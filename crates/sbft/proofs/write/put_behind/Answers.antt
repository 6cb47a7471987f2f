-- `put_behind` meets its contract: six puts, each right behind the one before it. Assumes nothing.
use Rattle.sbft.specs.Layout.{part_of}
use Rattle.sbft.proofs.PutLaws.{behind-puts}
use Rattle.sbft.proofs.write.put_behind.Goals as goal

pub returns : goal.returns
unfolding part_of
returns c =
    let scsi = rw c.part_of-scsi.ensures
    at c.put_same.ensures in
    let srp = rw c.part_of-srp.ensures
    at c.put_same-2.ensures in
    behind-puts _ _ _ _ _ _ _ _
    c.put_zeros.ensures
    c.put_offsets.ensures
    c.put_zeros-2.ensures
    scsi
    srp
    c.put_ib.ensures
