-- `put_initiator` meets its contract: each value is written right behind the one before. Assumes nothing.
use mathlib.Core.Path.{refl}
use Rattle.host_test_exports.specs.Laid.{laid_initiator}
use Rattle.host_test_exports.proofs.PutsLaws.{puts, behind, behind-both}
use Rattle.host_test_exports.proofs.initiator.put_initiator.Goals as goal

pub returns : goal.returns
unfolding laid_initiator
returns c =
    let i = c.args.i in
    behind (puts refl c.put_byte.ensures)
    (behind-both i.isns i.slp c.put_addresses.ensures
    (behind-both i.radius i.second_radius c.put_addresses-2.ensures c.put_text.ensures))
