-- `read` meets its contract: it reads each field of a start. Assumes nothing.
use Rattle.sbft.specs.Readings.{start_in}
use Rattle.sbft.proofs.fields.Start.read.Goals as goal

pub returns : goal.returns
unfolding start_in
returns c = cc
