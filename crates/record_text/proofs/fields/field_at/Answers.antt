-- `field_at` meets its contract. Assumes nothing.
use Rattle.record_text.specs.Fields.{field_of}
use Rattle.record_text.proofs.fields.field_at.Goals as goal

pub returns : goal.returns
unfolding field_of
returns c = rw (c.field_shape-place.ensures, c.notation_of-notation.ensures)
