-- `end_after` meets its contract: an absent structure moves no end. Assumes nothing.
use mathlib.Core.Path.{ap}
use native.Mathlib.Omega.{arith}
use Rattle.ibft_layout.specs.declared.shape.Shape.{Shape}
use Rattle.ibft_table_laws.proofs.LayoutLaws.{slot-fits}
use Rattle.ibft_build.proofs.starts.end_after.Goals as goal

pub overflow_add-result : goal.overflow_add-result
overflow_add-result c =
    let slot = c.built_slot-k in
    omega (arith, (slot-fits slot.result slot.ensures.1).short, ap (λ (x : Shape). x.length) c.kind_of.ensures)
