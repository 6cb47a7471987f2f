-- `test_structure` meets its contract: the reading, packed. Assumes nothing.
use Rattle.host_test_exports.proofs.packed.test_structure.Goals as goal

pub returns : goal.returns
returns c = cc
