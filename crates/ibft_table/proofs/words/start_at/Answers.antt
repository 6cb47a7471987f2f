-- `start_at` meets its contract: it reads the word. Assumes nothing.
use Rattle.ibft_table.specs.Table.{start_at}
use Rattle.ibft_table.proofs.words.start_at.Goals as goal

pub returns : goal.returns
unfolding start_at
returns c = cc
