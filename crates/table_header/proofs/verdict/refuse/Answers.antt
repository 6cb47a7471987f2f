-- `refuse` meets its contract: the checksum byte is 0. Assumes nothing.
use Rattle.table_header.proofs.verdict.refuse.Goals as goal

pub returns : goal.returns
returns c = c.refuse_with.ensures
