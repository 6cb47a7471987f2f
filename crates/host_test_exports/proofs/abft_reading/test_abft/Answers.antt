-- `test_abft` meets its contract: what the reading gives is written and packed. Assumes nothing.
use Rattle.host_test_exports.proofs.abft_reading.test_abft.Goals as goal

pub returns : goal.returns
returns c = record { value = cc; out_after = cc }
