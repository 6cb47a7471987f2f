-- `put_table` meets its contract: the header, what stands behind it, the checksum last. Assumes nothing.
use Rattle.sbft.proofs.SbftLaws.{table-put}
use Rattle.sbft.proofs.write.put_table.Goals as goal

pub returns : goal.returns
returns c =
    table-put _ _ _ _ _ _ c.requires.0 c.requires.1
    c.put_header.ensures
    c.put_behind.ensures
    c.put_checksum.ensures
