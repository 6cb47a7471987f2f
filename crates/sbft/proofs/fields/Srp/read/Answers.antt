-- `read` meets its contract: it reads each field of an SRP part. Assumes nothing.
use Rattle.sbft.specs.Readings.{srp_in}
use Rattle.sbft.proofs.fields.Srp.read.Goals as goal

pub returns : goal.returns
unfolding srp_in
returns c = cc
