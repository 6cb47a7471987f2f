-- `check_oem` meets its contract: the first field that is not padded settles it. Assumes nothing.
use mathlib.Core.Path.{sym, ap, ◌∙◌}
use Rattle.table_header.specs.Verdict.{first_of}
use Rattle.table_header.specs.Header.{padded}
use Rattle.table_header.proofs.header.check_oem.Goals as goal

pub returns-then-not-is_padded : goal.returns-then-not-is_padded
unfolding first_of
returns-then-not-is_padded c =
    c.refuse.ensures ∙ sym (rw (sym (c.is_padded.ensures ∙ ap padded c.part.ensures.bytes) ∙ c.if-not-is_padded.true))

pub returns-then-not-is_padded-2 : goal.returns-then-not-is_padded-2
unfolding first_of
returns-then-not-is_padded-2 c =
    c.refuse-then-not-is_padded-2.ensures
    ∙ sym (rw (
      sym (c.is_padded.ensures ∙ ap padded c.part.ensures.bytes) ∙ c.if-not-is_padded.false,
      sym (c.is_padded-2.ensures ∙ ap padded c.part-2.ensures.bytes) ∙ c.if-not-is_padded-2.true,
    ))

pub returns : goal.returns
unfolding first_of
returns c =
    sym (rw (
      sym (c.is_padded.ensures ∙ ap padded c.part.ensures.bytes) ∙ c.if-not-is_padded.false,
      sym (c.is_padded-2.ensures ∙ ap padded c.part-2.ensures.bytes) ∙ c.if-not-is_padded-2.false,
    ))
