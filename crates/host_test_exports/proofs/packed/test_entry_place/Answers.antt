-- `test_entry_place` meets its contract: the reading's words, packed. Assumes nothing.
use Rattle.host_test_exports.proofs.packed.test_entry_place.Goals as goal

pub returns : goal.returns
returns c = cc
