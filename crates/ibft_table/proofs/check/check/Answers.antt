-- `check` meets its contract: the header settles it, or what comes behind it does. Assumes nothing.
use Rattle.std.proofs.Common.{◌∙◌}
use Rattle.ibft_table.specs.Check.{check_tests, check_of}
use Rattle.table_header.proofs.VerdictLaws.{returned, append-stop, append-go}
use Rattle.ibft_table.proofs.CheckLaws.{check-promise}
use Rattle.ibft_table.proofs.check.check.Goals as goal

pub returns-in_err-check_header : goal.returns-in_err-check_header
unfolding check_of check_tests
returns-in_err-check_header c =
    let refused = c.in_err-check_header.was in
    check-promise _ _
    (returned _ _ _ c.from_residual.ensures.1 refused ∙ append-stop _ _ _ c.check_header.ensures _ refused)

pub returns : goal.returns
unfolding check_of check_tests
returns c =
    let rest = rw c.of.ensures at c.check_measured.ensures in
    check-promise _ _ (rest ∙ append-go _ _ _ c.check_header.ensures c.in_ok-check_header.was)
