-- `put_stretch` meets its contract: the length is written right behind the start. Assumes nothing.
use mathlib.Core.Path.{refl}
use Rattle.host_test_exports.proofs.PutsLaws.{puts, behind}
use Rattle.host_test_exports.proofs.comparing.put_stretch.Goals as goal

pub returns : goal.returns
returns c =
    behind (puts refl c.put_u32.ensures) (puts refl c.put_u16.ensures)
