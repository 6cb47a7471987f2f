-- `check_parts` meets its contract: a group of tests that refuses settles it, one that accepts leaves the tests behind it.
-- Assumes nothing.
use Rattle.std.proofs.Common.{◌∙◌}
use Rattle.table_header.proofs.VerdictLaws.{returned, append-stop, append-go}
use Rattle.sbft.proofs.check.check_parts.Goals as goal

pub returns-in_err-outside : goal.returns-in_err-outside
returns-in_err-outside c =
    let refused = c.in_err-outside.was in
    returned _ _ _ c.from_residual.ensures.1 refused ∙ append-stop _ _ _ c.check_outside-outside.ensures _ refused

pub returns-in_err-overlaps : goal.returns-in_err-overlaps
returns-in_err-overlaps c =
    let refused = c.in_err-overlaps.was in
    returned _ _ _ c.from_residual-in_err-overlaps.ensures.1 refused
    ∙ append-stop _ _ _ c.check_overlaps-overlaps.ensures _ refused
    ∙ append-go _ _ _ c.check_outside-outside.ensures c.in_ok-outside.was

pub returns : goal.returns
returns c =
    c.check_ib.ensures
    ∙ append-go _ _ _ c.check_overlaps-overlaps.ensures c.in_ok-overlaps.was
    ∙ append-go _ _ _ c.check_outside-outside.ensures c.in_ok-outside.was
