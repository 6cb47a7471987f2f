-- `write_answer` meets its contract: it packs what a write answers. Assumes nothing.
use Rattle.bootfw.proofs.write_answer.Goals as goal

pub returns : goal.returns
returns c = c.packed.ensures
