-- `read_srp` meets its contract: the fields of what the part's verdict shows. Assumes nothing.
use Rattle.sbft.specs.Readings.{part_in, srp_of}
use Rattle.sbft.proofs.reading.read_srp.Goals as goal

pub returns : goal.returns
unfolding part_in srp_of
returns c =
    rw (c.read.ensures, c.part_in.ensures, c.refusal_of.ensures, c.part_verdict-verdict.ensures)
