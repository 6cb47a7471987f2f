-- `named_image` meets its contract: number by number. Assumes nothing.
use mathlib.Core.Path.{sym, ap}
use native.Mathlib.Omega.{arith}
use Rattle.ibft_build_rules.specs.RecordRange.{named_image}
use Rattle.octets.specs.Counting.{sum_to}
use Rattle.ibft_layout.specs.Layout.{kind_of}
use Rattle.ibft_layout.proofs.LayoutLaws.{last_arm}
use Rattle.ibft_build_rules.proofs.range.named_image.Goals as goal

pub returns-in-1 : goal.returns-in-1
unfolding named_image sum_to kind_of
returns-in-1 c = (ap named_image (sym c.in-1.is), omega arith)

pub returns-in-2 : goal.returns-in-2
unfolding named_image sum_to kind_of
returns-in-2 c = (ap named_image (sym c.in-2.is), omega arith)

pub returns-in-3 : goal.returns-in-3
unfolding named_image sum_to kind_of
returns-in-3 c = (ap named_image (sym c.in-3.is), omega arith)

pub returns-in-4 : goal.returns-in-4
unfolding named_image sum_to kind_of
returns-in-4 c = (ap named_image (sym c.in-4.is), omega arith)

pub returns-in_default : goal.returns-in_default
unfolding named_image sum_to kind_of
returns-in_default c = (last_arm named_image 4 _ c.in_default.in_default-own.rest (λ h. absurd (omega arith)), omega arith)
