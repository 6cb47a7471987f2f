-- `check_measured` meets its contract: a part that refuses settles it, a part that accepts leaves the tests behind it. Assumes
-- nothing.
use Rattle.std.proofs.Common.{◌∙◌}
use Rattle.table_header.proofs.VerdictLaws.{returned, append-stop, append-go}
use Rattle.ibft_table.proofs.check.check_measured.Goals as goal

pub returns-in_err-check_control : goal.returns-in_err-check_control
returns-in_err-check_control c =
    let refused = c.in_err-check_control.was in
    returned _ _ _ c.from_residual.ensures.1 refused ∙ append-stop _ _ _ c.check_control.ensures _ refused

pub returns-in_err-check_words : goal.returns-in_err-check_words
returns-in_err-check_words c =
    let refused = c.in_err-check_words.was in
    returned _ _ _ c.from_residual-in_err-check_words.ensures.1 refused
    ∙ append-stop _ _ _ c.check_words.ensures _ refused
    ∙ append-go _ _ _ c.check_control.ensures c.in_ok-check_control.was

pub returns-in_err-check_overlaps : goal.returns-in_err-check_overlaps
returns-in_err-check_overlaps c =
    let refused = c.in_err-check_overlaps.was in
    returned _ _ _ c.from_residual-in_err-check_overlaps.ensures.1 refused
    ∙ append-stop _ _ _ c.check_overlaps.ensures _ refused
    ∙ append-go _ _ _ c.check_words.ensures c.in_ok-check_words.was
    ∙ append-go _ _ _ c.check_control.ensures c.in_ok-check_control.was

pub returns : goal.returns
returns c =
    c.check_entries.ensures
    ∙ append-go _ _ _ c.check_overlaps.ensures c.in_ok-check_overlaps.was
    ∙ append-go _ _ _ c.check_words.ensures c.in_ok-check_words.was
    ∙ append-go _ _ _ c.check_control.ensures c.in_ok-check_control.was
