-- `put_abft` meets its contract: each value is written right behind the one before. Assumes nothing.
use mathlib.Core.Path.{refl}
use Rattle.host_test_exports.specs.Laid.{laid_abft}
use Rattle.host_test_exports.proofs.PutsLaws.{puts, behind}
use Rattle.host_test_exports.proofs.abft_reading.put_abft.Goals as goal

pub returns : goal.returns
unfolding laid_abft
returns c =
    behind c.put_six.ensures
    (behind c.put_eight.ensures
    (behind (puts refl c.put_u16.ensures) (behind (puts refl c.put_byte.ensures) c.put_six-2.ensures)))
