-- `test_login_order` meets its contract: the order, packed. Assumes nothing.
use Rattle.host_test_exports.proofs.packed.test_login_order.Goals as goal

pub returns : goal.returns
returns c = cc
