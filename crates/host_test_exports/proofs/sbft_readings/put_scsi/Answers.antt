-- `put_scsi` meets its contract: the LUN is all that is written. Assumes nothing.
use Rattle.host_test_exports.specs.Laid.{laid_scsi}
use Rattle.host_test_exports.proofs.sbft_readings.put_scsi.Goals as goal

pub returns : goal.returns
unfolding laid_scsi
returns c =
    c.put_eight.ensures
