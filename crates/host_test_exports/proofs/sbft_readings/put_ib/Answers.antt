-- `put_ib` meets its contract: each value is written right behind the one before. Assumes nothing.
use mathlib.Core.Path.{refl}
use Rattle.host_test_exports.specs.Laid.{laid_ib}
use Rattle.host_test_exports.proofs.PutsLaws.{puts, behind, behind-both}
use Rattle.host_test_exports.proofs.sbft_readings.put_ib.Goals as goal

pub returns : goal.returns
unfolding laid_ib
returns c =
    let i = c.args.i in
    behind-both i.source_gid i.destination_gid c.put_addresses.ensures
    (behind c.put_eight.ensures (puts refl c.put_u16.ensures))
