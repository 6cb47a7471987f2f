-- `put_addresses` meets its contract: one address behind the other. Assumes nothing.
use Rattle.host_test_exports.proofs.PutsLaws.{behind}
use Rattle.host_test_exports.proofs.put.put_addresses.Goals as goal

pub returns : goal.returns
returns c =
    behind c.put_address.ensures c.put_address-2.ensures
