-- `part_of` meets its contract, number by number. Assumes nothing.
use mathlib.Core.Path.{sym, ap}
use native.Mathlib.Omega.{arith}
use Rattle.sbft.specs.Layout.{part_of}
use Rattle.sbft.proofs.LayoutLaws.{part-last}
use Rattle.sbft.proofs.layout.part_of.Goals as goal

pub returns-in-0 : goal.returns-in-0
unfolding part_of
returns-in-0 c = ap part_of (sym c.in-0.is)

pub returns-in-1 : goal.returns-in-1
unfolding part_of
returns-in-1 c = ap part_of (sym c.in-1.is)

pub returns-in_default : goal.returns-in_default
returns-in_default c = part-last _ (omega (arith, c.in_default.in_default-own.rest))
