-- `entry_limit` meets its contract: the entries in front of the first slot that is not looked at. Assumes nothing.
use mathlib.Core.Path.{◌∙◌, ap}
use native.Mathlib.Omega.{arith}
use Rattle.ibft_layout.specs.Layout.{first_entry}
use Rattle.ibft_layout.proofs.LayoutLaws.{first-most}
use Rattle.ibft_record.specs.Limits.{entry_limit}
use Rattle.ibft_record.proofs.record.entry_limit.Goals as goal

pub overflow_cast-result : goal.overflow_cast-result
overflow_cast-result c = omega (arith, c.first_entry.ensures, first-most _ c.slot_limit.ensures.1)

pub returns : goal.returns
unfolding entry_limit
returns c =
    let limit = c.slot_limit.ensures in
    let first = c.first_entry.ensures in
    (first ∙ ap first_entry limit.0, omega (arith, first-most _ limit.1))
