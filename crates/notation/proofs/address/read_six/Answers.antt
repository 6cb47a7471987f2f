-- `read_six` meets its contract: with `::`, or without. Assumes nothing.
use Rattle.std.proofs.Common.{◌∙◌, arith}
use Rattle.notation.proofs.GatherLaws.{six-gap, six-plain}
use Rattle.notation.proofs.address.read_six.Goals as goal

pub returns-then-gap-s : goal.returns-then-gap-s
returns-then-gap-s c = c.read_around.ensures ∙ six-gap c.args.s.now _ c.gap_at-gap.ensures (omega arith)

pub returns : goal.returns
returns c = c.read_plain.ensures ∙ six-plain c.args.s.now _ c.gap_at-gap.ensures (omega arith)
