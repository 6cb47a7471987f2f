-- `ibft_scan` meets its contract: the family's window ends below 2^24. Assumes nothing.
use Rattle.bootfw.proofs.ibft_scan.Goals as goal

pub returns : goal.returns
returns c = c.scan_answer.ensures
