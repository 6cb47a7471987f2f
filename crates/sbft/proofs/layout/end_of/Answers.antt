-- `end_of` meets its contract: the sum of two numbers of 16 bits. Assumes nothing.
use Rattle.sbft.specs.Layout.{end_of}
use Rattle.sbft.proofs.layout.end_of.Goals as goal

pub returns : goal.returns
unfolding end_of
returns c = rw (c.part_of.ensures, c.offset_of.ensures)
