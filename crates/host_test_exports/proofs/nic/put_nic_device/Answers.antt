-- `put_nic_device` meets its contract: each value is written right behind the one before. Assumes nothing.
use mathlib.Core.Path.{refl}
use Rattle.host_test_exports.proofs.PutsLaws.{puts, behind}
use Rattle.host_test_exports.proofs.nic.put_nic_device.Goals as goal

pub returns : goal.returns
returns c =
    behind (puts refl c.put_u16.ensures)
    (behind c.put_six.ensures (behind (puts refl c.put_u16-2.ensures) c.put_text.ensures))
