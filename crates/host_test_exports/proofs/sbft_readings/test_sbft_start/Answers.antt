-- `test_sbft_start` meets its contract: what the reading gives is written and packed. Assumes nothing.
use Rattle.host_test_exports.proofs.sbft_readings.test_sbft_start.Goals as goal

pub returns : goal.returns
returns c = record { value = cc; out_after = cc }
