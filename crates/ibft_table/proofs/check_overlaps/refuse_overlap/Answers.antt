-- `refuse_overlap` meets its contract. Assumes nothing.
use Rattle.ibft_table.proofs.check_overlaps.refuse_overlap.Goals as goal

pub returns : goal.returns
returns c = rw c.word_at.ensures at c.refuse.ensures
