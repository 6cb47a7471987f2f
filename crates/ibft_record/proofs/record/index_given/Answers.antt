-- `index_given` meets its contract: a named slot's is settled, an extra's stands in its image. Assumes nothing.
use mathlib.Core.Path.{◌∙◌, sym}
use native.Mathlib.Omega.{arith}
use Rattle.ibft_record.proofs.RecordLaws.{index-named, index-there, index-none}
use Rattle.ibft_record.proofs.record.index_given.Goals as goal

pub returns-then-k-lt-NAMED_COUNT : goal.returns-then-k-lt-NAMED_COUNT
returns-then-k-lt-NAMED_COUNT c = c.index_of.ensures ∙ index-named _ _ (omega arith)

pub returns-then-structure_given : goal.returns-then-structure_given
returns-then-structure_given c =
    let on = sym c.structure_given.ensures ∙ c.if-structure_given.true in
    c.byte_at.ensures ∙ rw c.image_at.ensures.0 (index-there _ _ (omega arith) on)

pub returns : goal.returns
returns c = index-none _ _ (omega arith) (sym c.structure_given.ensures ∙ c.if-structure_given.false)
