-- `put_table` meets its contract: the header, what stands behind it, and the checksum last. Assumes nothing.
use Rattle.abft.proofs.AbftLaws.{table-put}
use Rattle.abft.proofs.write.put_table.Goals as goal

pub returns : goal.returns
returns c =
    table-put _ _ _ _ _ c.requires
    c.put_header.ensures
    c.put_fields.ensures
    c.put_checksum.ensures
