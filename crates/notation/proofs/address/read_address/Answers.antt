-- `read_address` meets its contract: IPv6 where a colon is there, else IPv4. Assumes nothing.
use Rattle.std.proofs.Common.{◌∙◌, arith}
use Rattle.notation.proofs.GatherLaws.{address-six, address-four}
use Rattle.notation.proofs.address.read_address.Goals as goal

pub returns-then-index_of-s : goal.returns-then-index_of-s
returns-then-index_of-s c = c.read_six.ensures ∙ address-six c.args.s.now _ c.index_of.ensures.0 (omega arith)

pub returns : goal.returns
returns c = c.read_mapped.ensures ∙ address-four c.args.s.now _ c.index_of.ensures.0 (omega arith)
