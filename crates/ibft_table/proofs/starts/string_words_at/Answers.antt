-- `string_words_at` meets its contract: the start of the owner and the place in its structure. Assumes nothing.
use Rattle.ibft_table.specs.Table.{field_in}
use Rattle.ibft_table.proofs.starts.string_words_at.Goals as goal

pub returns : goal.returns
unfolding field_in
returns c =
    rw (c.start_in.ensures, c.owner_of.ensures, c.string_of.ensures)
