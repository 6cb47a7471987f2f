-- `end_at` meets its contract: the start and the length of its kind. Assumes nothing.
use Rattle.ibft_table.specs.Table.{end_at}
use Rattle.ibft_table.proofs.words.end_at.Goals as goal

pub returns : goal.returns
unfolding end_at
returns c = rw (c.kind_at.ensures, c.start_at.ensures)
