-- `put_header` meets its contract: its three writes fill the stretch. Assumes nothing.
use Rattle.ibft_build.proofs.HeaderLaws.{header_is}
use Rattle.ibft_build.proofs.write_header.put_header.Goals as goal

pub returns : goal.returns
returns c =
    let p = c.requires in
    header_is _ _ _ _ _ _ _ _ p.0 p.1 c.header_start-start.ensures c.put_bytes.ensures
    c.part-oem.ensures.bytes c.put_bytes-2.ensures c.put_zeros.ensures
