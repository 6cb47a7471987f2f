-- `test_entry` meets its contract: the reading's refusal, packed. Assumes nothing.
use Rattle.host_test_exports.proofs.packed.test_entry.Goals as goal

pub returns : goal.returns
returns c = cc
