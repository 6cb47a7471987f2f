-- `put_texts` meets its contract: the words of one string behind those of the other. Assumes nothing.
use Rattle.host_test_exports.proofs.PutsLaws.{behind}
use Rattle.host_test_exports.proofs.put.put_texts.Goals as goal

pub returns : goal.returns
returns c =
    behind c.put_text.ensures c.put_text-2.ensures
