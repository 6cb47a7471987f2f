-- `check_answer` meets its contract: a verdict's refusal is packed. Assumes nothing.
use Rattle.bootfw.proofs.check_answer.Goals as goal

pub packed-requires : goal.packed-requires
packed-requires c = rw c.refusal_of-refusal.ensures c.requires

pub returns : goal.returns
returns c = rw (← c.refusal_of-refusal.ensures) c.packed.ensures
