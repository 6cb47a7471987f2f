-- `put_fields` meets its contract: each piece stands right behind the one before. Assumes nothing.
use Rattle.abft.proofs.AbftLaws.{fields-put}
use Rattle.abft.proofs.write.put_fields.Goals as goal

pub returns : goal.returns
returns c =
    fields-put _ _ _ _ _ _ _ _
    c.put_zeros.ensures
    c.shelf_and_slot-target.ensures
    c.put_bytes.ensures
    c.put_byte.ensures
    c.array_at-mac.ensures
    c.put_bytes-2.ensures
