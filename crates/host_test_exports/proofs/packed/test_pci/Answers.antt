-- `test_pci` meets its contract: the parts of the word, packed. Assumes nothing.
use Rattle.host_test_exports.proofs.packed.test_pci.Goals as goal

pub returns : goal.returns
returns c = cc
