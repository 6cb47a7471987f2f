-- `offset_written` meets its contract, by whether the part is absent. Assumes nothing.
use mathlib.Core.Path.{sym, ◌∙◌}
use Rattle.sbft.specs.Write.{place_of}
use Rattle.sbft.proofs.write.offset_written.Goals as goal

pub returns : goal.returns
unfolding place_of
returns c = rw (sym c.absent.ensures ∙ c.if-absent.false, c.part_of.ensures)
