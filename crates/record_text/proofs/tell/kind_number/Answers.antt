-- `kind_number` meets its contract. Assumes nothing.
use mathlib.Core.Path.{ap}
use Rattle.ibft_layout.specs.declared.shape.Shape.{Shape}
use Rattle.record_text.proofs.TellLaws.{kind-low, kind-structure}
use Rattle.record_text.proofs.tell.kind_number.Goals as goal

pub returns-then-g-lt-FIRST_STRUCTURE : goal.returns-then-g-lt-FIRST_STRUCTURE
returns-then-g-lt-FIRST_STRUCTURE c = kind-low _ c.if-g-lt-FIRST_STRUCTURE.true

pub returns : goal.returns
returns c = kind-structure _ c.if-g-lt-FIRST_STRUCTURE.false c.kind_of.result (ap (λ (s : Shape). s.id) c.kind_of.ensures)
