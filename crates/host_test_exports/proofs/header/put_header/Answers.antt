-- `put_header` meets its contract: each value is written right behind the one before. Assumes nothing.
use mathlib.Core.Path.{refl}
use Rattle.host_test_exports.specs.Laid.{laid_header}
use Rattle.host_test_exports.proofs.PutsLaws.{puts, behind}
use Rattle.host_test_exports.proofs.header.put_header.Goals as goal

pub returns : goal.returns
unfolding laid_header
returns c =
    behind c.put_six.ensures (behind c.put_eight.ensures (puts refl c.put_byte.ensures))
