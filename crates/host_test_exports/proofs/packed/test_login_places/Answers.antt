-- `test_login_places` meets its contract: the order's places, read as one number. Assumes nothing.
use Rattle.host_test_exports.proofs.packed.test_login_places.Goals as goal

pub returns : goal.returns
returns c = cc
