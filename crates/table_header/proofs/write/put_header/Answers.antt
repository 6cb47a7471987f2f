-- `put_header` meets its contract: the header's start and the two OEM fields stand one behind the other. Assumes nothing.
use Rattle.table_header.proofs.WriteLaws.{header-put}
use Rattle.table_header.proofs.write.put_header.Goals as goal

pub returns : goal.returns
returns c =
    header-put _ _ _ _ _ _ _ _ _ _
    c.header_start-start.ensures
    c.put_bytes.ensures
    c.array_at-oem_id.ensures
    c.put_bytes-2.ensures
    c.array_at-oem_table_id.ensures
    c.put_bytes-3.ensures
