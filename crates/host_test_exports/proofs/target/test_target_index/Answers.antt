-- `test_target_index` meets its contract: the reading's Index. Assumes nothing.
use Rattle.host_test_exports.proofs.target.test_target_index.Goals as goal

pub returns : goal.returns
returns c = cc
