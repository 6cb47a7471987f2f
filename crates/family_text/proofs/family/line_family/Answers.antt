-- `line_family` meets its contract. Assumes nothing.
use mathlib.Core.Path.{◌∙◌}
use Rattle.text.proofs.SplitLaws.{trim-part}
use Rattle.family_text.proofs.FamilyLaws.{line-nothing, line-named}
use Rattle.family_text.proofs.family.line_family.Goals as goal

pub returns-then-says_nothing : goal.returns-then-says_nothing
returns-then-says_nothing c = line-nothing _ _ _ (c.trimmed-said.ensures.bytes ∙ trim-part _) c.says_nothing.ensures c.if-says_nothing.true

pub returns : goal.returns
returns c =
    line-named _ _ _ (c.trimmed-said.ensures.bytes ∙ trim-part _) c.says_nothing.ensures
    c.if-says_nothing.false _ c.field_text.ensures.bytes _
    c.family_named.ensures
