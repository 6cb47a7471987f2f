-- `read_header` meets its contract: the header of what the verdict shows. Assumes nothing.
use Rattle.ibft_readings.specs.Readings.{header_of}
use Rattle.ibft_readings.proofs.header.read_header.Goals as goal

pub returns : goal.returns
unfolding header_of
returns c =
    rw (c.header_in.ensures, c.shown_of.ensures.result_value, c.refusal_of.ensures, c.check-verdict.ensures.verdict-is)
