-- `test_structure_index` meets its contract: the reading's Index. Assumes nothing.
use Rattle.host_test_exports.proofs.packed.test_structure_index.Goals as goal

pub returns : goal.returns
returns c = cc
