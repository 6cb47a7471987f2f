-- `field_text` meets its contract: it shows the bytes before the first blank. Assumes nothing.
use Rattle.text.proofs.split.field_text.Goals as goal

pub returns : goal.returns
returns c = rw c.field_size.ensures.0 at c.part.ensures
