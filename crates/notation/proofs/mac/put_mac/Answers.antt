-- `put_mac` meets its contract: six pairs. Assumes nothing.
use Rattle.notation.specs.Mac.{mac_text}
use Rattle.notation.proofs.mac.put_mac.Goals as goal

pub returns : goal.returns
unfolding mac_text
returns c = c.put_pairs.ensures
