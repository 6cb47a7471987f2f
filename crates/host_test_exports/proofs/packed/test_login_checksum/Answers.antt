-- `test_login_checksum` meets its contract: the order's checksum byte. Assumes nothing.
use Rattle.host_test_exports.proofs.packed.test_login_checksum.Goals as goal

pub returns : goal.returns
returns c = cc
