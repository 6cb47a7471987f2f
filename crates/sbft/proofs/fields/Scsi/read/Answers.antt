-- `read` meets its contract: it reads each field of a SCSI part. Assumes nothing.
use Rattle.sbft.specs.Readings.{scsi_in}
use Rattle.sbft.proofs.fields.Scsi.read.Goals as goal

pub returns : goal.returns
unfolding scsi_in
returns c = cc
