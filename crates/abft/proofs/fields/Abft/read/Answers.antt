-- `read` meets its contract: it reads each field of a table. Assumes nothing.
use Rattle.abft.specs.Abft.{record_of}
use Rattle.abft.proofs.fields.Abft.read.Goals as goal

pub returns : goal.returns
unfolding record_of
returns c = cc
