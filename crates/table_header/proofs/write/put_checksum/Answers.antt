-- `put_checksum` meets its contract: the checksum is that of the first bytes. Assumes nothing.
use Rattle.table_header.proofs.WriteLaws.{checksum-put}
use Rattle.table_header.proofs.write.put_checksum.Goals as goal

pub returns : goal.returns
returns c =
    let s = c.args in
    checksum-put s.room.now _ _ s.size _ c.part.ensures.bytes c.checksum-byte.ensures.checksum-is c.put_byte.ensures
