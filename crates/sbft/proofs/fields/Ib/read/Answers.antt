-- `read` meets its contract: it reads each field of an IB part. Assumes nothing.
use Rattle.sbft.specs.Readings.{ib_in}
use Rattle.sbft.proofs.fields.Ib.read.Goals as goal

pub returns : goal.returns
unfolding ib_in
returns c = cc
