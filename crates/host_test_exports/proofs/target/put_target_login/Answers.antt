-- `put_target_login` meets its contract: each value is written right behind the one before. Assumes nothing.
use mathlib.Core.Path.{refl}
use Rattle.host_test_exports.proofs.PutsLaws.{puts, behind}
use Rattle.host_test_exports.proofs.target.put_target_login.Goals as goal

pub returns : goal.returns
returns c =
    behind (puts refl c.put_byte.ensures) (behind (puts refl c.put_byte-2.ensures) c.put_text.ensures)
