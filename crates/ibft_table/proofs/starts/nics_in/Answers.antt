-- `nics_in` meets its contract: it is the count of extras in the slots of extra NICs. Assumes nothing.
use Rattle.ibft_table.specs.Table.{nics_in}
use Rattle.ibft_table.proofs.starts.nics_in.Goals as goal

pub returns : goal.returns
unfolding nics_in
returns c = c.extras_in.ensures
