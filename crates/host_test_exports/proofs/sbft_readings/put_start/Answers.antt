-- `put_start` meets its contract: each value is written right behind the one before. Assumes nothing.
use Rattle.host_test_exports.specs.Laid.{laid_start}
use Rattle.host_test_exports.proofs.PutsLaws.{behind}
use Rattle.host_test_exports.proofs.sbft_readings.put_start.Goals as goal

pub returns : goal.returns
unfolding laid_start
returns c =
    behind c.put_six.ensures c.put_eight.ensures
