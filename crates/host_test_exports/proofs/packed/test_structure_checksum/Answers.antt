-- `test_structure_checksum` meets its contract: the reading's checksum byte. Assumes nothing.
use Rattle.host_test_exports.proofs.packed.test_structure_checksum.Goals as goal

pub returns : goal.returns
returns c = cc
