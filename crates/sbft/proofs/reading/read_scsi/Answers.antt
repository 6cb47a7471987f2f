-- `read_scsi` meets its contract: the fields of what the part's verdict shows. Assumes nothing.
use Rattle.sbft.specs.Readings.{part_in, scsi_of}
use Rattle.sbft.proofs.reading.read_scsi.Goals as goal

pub returns : goal.returns
unfolding part_in scsi_of
returns c =
    rw (c.read.ensures, c.part_in.ensures, c.refusal_of.ensures, c.part_verdict-verdict.ensures)
