-- `test_compare` meets its contract: what comparing answers, packed. Assumes nothing.
use Rattle.host_test_exports.proofs.comparing.test_compare.Goals as goal

pub returns : goal.returns
returns c = cc c.compare-compared.ensures.answer-is
