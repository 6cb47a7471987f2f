-- `put_text` meets its contract: two words, one behind the other. Assumes nothing.
use mathlib.Core.Path.{refl}
use Rattle.host_test_exports.proofs.PutsLaws.{puts, behind}
use Rattle.host_test_exports.proofs.put.put_text.Goals as goal

pub returns : goal.returns
returns c =
    behind (puts refl c.put_u16.ensures) (puts refl c.put_u16-2.ensures)
