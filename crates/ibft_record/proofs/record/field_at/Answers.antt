-- `field_at` meets its contract: the image of the entry's slot, and the place in it. Assumes nothing.
use Rattle.ibft_record.proofs.record.field_at.Goals as goal

pub returns : goal.returns
returns c = rw (c.image_at.ensures.0, c.owner_of.ensures, c.string_of-at.ensures)
