-- `Source::put_front` meets its contract: the flags stand right behind the OEM fields. Assumes nothing.
use Rattle.ibft_rebuild.proofs.RangeWriteLaws.{front-wrote}
use borrow.Author.Rules.{rules}
use Rattle.ibft_rebuild.proofs.range.Source.put_front.Goals as goal

pub returns : goal.returns
returns c =
    front-wrote _ _ _ _ _ _ _ _ c.part-oem.ensures.bytes c.put_bytes.ensures (search rules)
    c.byte_at.ensures c.put_byte.ensures (search rules)
