-- `line_step` meets its contract. Assumes nothing.
use mathlib.Core.Path.{◌∙◌}
use Rattle.text.proofs.SplitLaws.{trim-part, value-part}
use Rattle.family_text.proofs.EnterLaws.{line-nothing, line-field, any-field, step_same}
use Rattle.family_text.proofs.enter.line_step.Goals as goal

pub returns-then-says_nothing : goal.returns-then-says_nothing
returns-then-says_nothing c =
    any-field _ _
    (line-nothing c.args.family _ _ _ _ (c.trimmed-said.ensures.bytes ∙ trim-part _) c.says_nothing.ensures c.if-says_nothing.true)

pub returns : goal.returns
returns c =
    step_same _ _ _ c.field_step.ensures
    (line-field c.args.family _ _ _ _ (c.trimmed-said.ensures.bytes ∙ trim-part _)
    c.says_nothing.ensures c.if-says_nothing.false _ _ _
    c.field_text.ensures.bytes c.field_named-n.ensures (c.value_of.ensures.bytes ∙ value-part _))
