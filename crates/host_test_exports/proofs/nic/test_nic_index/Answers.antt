-- `test_nic_index` meets its contract: the reading's Index. Assumes nothing.
use Rattle.host_test_exports.proofs.nic.test_nic_index.Goals as goal

pub returns : goal.returns
returns c = cc
