-- `shelf_and_slot` meets its contract, byte by byte. Assumes nothing.
use Rattle.octets.specs.Octets.{bytes_past}
use Rattle.abft.proofs.write.shelf_and_slot.Goals as goal

pub returns : goal.returns
unfolding bytes_past
returns c = rw (c.byte_at-3.ensures, c.byte_at-2.ensures, c.byte_at.ensures)
