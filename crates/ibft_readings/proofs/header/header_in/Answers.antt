-- `header_in` meets its contract: each field is what its read ensures. Assumes nothing.
use Rattle.ibft_readings.specs.Readings.{header_in}
use Rattle.ibft_readings.proofs.header.header_in.Goals as goal

pub returns : goal.returns
unfolding header_in
returns c = rw (c.control_of.ensures, c.array_at-2.ensures, c.array_at.ensures)
