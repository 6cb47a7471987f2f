-- `test_initiator` meets its contract: what the reading gives is written and packed. Assumes nothing.
use Rattle.host_test_exports.proofs.initiator.test_initiator.Goals as goal

pub returns : goal.returns
returns c = record { value = cc; out_after = cc }
