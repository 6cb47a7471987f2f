-- `read_start` meets its contract: the fields of what the check's verdict shows. Assumes nothing.
use Rattle.sbft.specs.Readings.{start_of}
use Rattle.sbft.proofs.reading.read_start.Goals as goal

pub returns : goal.returns
unfolding start_of
returns c =
    rw (c.read.ensures, c.shown_of.ensures.result_value, c.refusal_of.ensures, c.check-verdict.ensures.verdict-is)
