-- `check_header` meets its contract: the tests up to the OEM fields settle it, or those of the OEM fields do. Assumes nothing.
use Rattle.std.proofs.Common.{◌∙◌}
use Rattle.table_header.specs.Header.{header_tests}
use Rattle.table_header.proofs.VerdictLaws.{returned, append-stop, append-go}
use Rattle.table_header.proofs.header.check_header.Goals as goal

pub returns-in_err-check_start : goal.returns-in_err-check_start
unfolding header_tests
returns-in_err-check_start c =
    let refused = c.in_err-check_start.was in
    returned _ _ _ c.from_residual.ensures.1 refused ∙ append-stop _ _ _ c.check_start.ensures _ refused

pub returns : goal.returns
unfolding header_tests
returns c = c.check_oem.ensures ∙ append-go _ _ _ c.check_start.ensures (c.in_ok-check_start.was)
