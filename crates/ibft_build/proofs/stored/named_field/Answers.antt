-- `named_field` meets its contract: the image of the entry's slot, and the place in it. Assumes nothing.
use mathlib.Core.Path.{ap}
use native.Mathlib.Omega.{arith}
use Rattle.ibft_layout.specs.declared.shape.StringShape.{StringShape}
use Rattle.ibft_record.proofs.RecordLaws.{string-low}
use Rattle.ibft_build.proofs.stored.named_field.Goals as goal

pub overflow_add-result : goal.overflow_add-result
overflow_add-result c =
    let n = c.args.n in
    omega (arith, string-low n (omega arith), ap (λ (s : StringShape). s.at) c.string_of-at.ensures)
