-- `label_byte` meets its contract: the tests are those of the definition. Assumes nothing.
use Rattle.std.proofs.Common.{arith}
use Rattle.std.proofs.lemmas.Bool.Decides.{nat_tests}
use Rattle.hostname.specs.Hostname.{label_byte}
use Rattle.hostname.proofs.label_byte.Goals as goal

pub returns : goal.returns
unfolding label_byte
returns c = rw c.is_ascii_alphanumeric.ensures.value (grind (arith, nat_tests))
