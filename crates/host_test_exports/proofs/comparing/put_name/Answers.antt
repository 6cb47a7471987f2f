-- `put_name` meets its contract: each value is written right behind the one before. Assumes nothing.
use mathlib.Core.Path.{refl}
use Rattle.host_test_exports.proofs.PutsLaws.{puts, behind}
use Rattle.host_test_exports.proofs.comparing.put_name.Goals as goal

pub returns : goal.returns
returns c =
    behind (puts refl c.put_byte.ensures)
    (behind (puts refl c.put_byte-2.ensures) (behind (puts refl c.put_byte-3.ensures) (puts refl c.put_u16.ensures)))
