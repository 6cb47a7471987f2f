-- `field_named` meets its contract. Assumes nothing.
use mathlib.Core.Path.{sym}
use lib.Seq.{length-take-le}
use Rattle.record_text.proofs.FieldsLaws.{named-nothing, named-found}
use Rattle.record_text.proofs.fields.field_named.Goals as goal

pub returns-then-dot-name : goal.returns-then-dot-name
returns-then-dot-name c = named-nothing _ _ c.index_of-dot.ensures.0 c.if-dot-name.true

pub slice_bounds-found_in-end : goal.slice_bounds-found_in-end
slice_bounds-found_in-end c = sym (length-take-le _ _ c.index_of-dot.ensures.1)

pub returns : goal.returns
returns c =
    named-found _ _ c.index_of-dot.ensures.0 c.if-dot-name.false _ _ c.part.ensures.bytes c.found_in.ensures
