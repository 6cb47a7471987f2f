-- `put_difference` meets its contract: each value is written right behind the one before. Assumes nothing.
use Rattle.host_test_exports.specs.Laid.{laid_difference}
use Rattle.host_test_exports.proofs.PutsLaws.{behind}
use Rattle.host_test_exports.proofs.comparing.put_difference.Goals as goal

pub returns : goal.returns
unfolding laid_difference
returns c =
    behind c.put_what.ensures
    (behind c.put_stretch.ensures (behind c.put_stretch-2.ensures c.put_stretch-3.ensures))
