-- `check` meets its contract: a part that refuses settles it, a part that accepts leaves the tests behind it. Assumes nothing.
use Rattle.std.proofs.Common.{◌≡◌, List, ◌++◌, ℕ, ◌∙◌}
use Rattle.table_header.specs.Verdict.{Verdict, Accepted, first_of}
use Rattle.table_header.specs.Header.{header_tests, reserved_tests}
use Rattle.table_header.proofs.VerdictLaws.{returned, append-stop, append-go}
use Rattle.scan.specs.Scan.{abft}
use Rattle.abft.specs.Abft.{check_tests, check_of}
use Rattle.abft.proofs.CheckLaws.{check-promise}
use Rattle.abft.proofs.check.check.Goals as goal

-- behind a header that has passed
header-passed : (t : List ℕ) (v : Verdict) → v ≡ first_of (header_tests abft.signature abft.least abft.least t) → v ≡ Accepted
    → first_of (reserved_tests t 24 12 ++ reserved_tests t 39 1) ≡ check_of t
unfolding check_of check_tests
header-passed t v is passed = append-go _ _ v is passed

pub returns-in_err-check_header : goal.returns-in_err-check_header
unfolding check_of check_tests
returns-in_err-check_header c =
    let refused = c.in_err-check_header.was in
    check-promise _ _ (returned _ _ _ c.from_residual.ensures.1 refused ∙ append-stop _ _ _ c.check_header.ensures _ refused)

pub returns-in_err-check_reserved : goal.returns-in_err-check_reserved
returns-in_err-check_reserved c =
    let refused = c.in_err-check_reserved.was in
    check-promise _ _ (
    returned _ _ _ c.from_residual-in_err-check_reserved.ensures.1 refused
    ∙ append-stop _ _ _ c.check_reserved.ensures _ refused
    ∙ header-passed c.args.t.now _ c.check_header.ensures c.in_ok-check_header.was
    )

pub returns : goal.returns
returns c =
    check-promise _ _ (
    c.check_reserved-2.ensures
    ∙ append-go _ _ _ c.check_reserved.ensures c.in_ok-check_reserved.was
    ∙ header-passed c.args.t.now _ c.check_header.ensures c.in_ok-check_header.was
    )
