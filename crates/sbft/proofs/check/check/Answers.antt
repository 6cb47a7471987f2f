-- `check` meets its contract: a group of tests that refuses settles it, one that accepts leaves the tests behind it.
-- Assumes nothing.
use Rattle.std.proofs.Common.{◌≡◌, List, ◌++◌, ℕ, ◌∙◌}
use Rattle.octets.specs.Counting.{gather}
use Rattle.table_header.specs.Verdict.{Verdict, Accepted, Test, first_of}
use Rattle.table_header.specs.Header.{header_tests, reserved_tests}
use Rattle.table_header.proofs.VerdictLaws.{returned, append-stop, append-go}
use Rattle.scan.specs.Scan.{sbft}
use Rattle.sbft.specs.Layout.{part_count}
use Rattle.sbft.specs.Check.{outside_tests, overlap_tests, ib_tests, check_tests, check_of}
use Rattle.sbft.proofs.CheckLaws.{check-promise}
use Rattle.sbft.proofs.check.check.Goals as goal

-- the tests from each group on
abbrev from_parts : List ℕ → List Test
from_parts t = gather (outside_tests t) 0 part_count ++ (gather (overlap_tests t) 0 part_count ++ ib_tests t)

abbrev from_last : List ℕ → List Test
from_last t = reserved_tests t 42 6 ++ from_parts t

abbrev from-reserved : List ℕ → List Test
from-reserved t = reserved_tests t 24 12 ++ from_last t

-- behind each group that has passed
header-passed : (t : List ℕ) (v : Verdict) → v ≡ first_of (header_tests sbft.signature sbft.least sbft.least t) → v ≡ Accepted
    → first_of (from-reserved t) ≡ check_of t
unfolding check_of check_tests
header-passed t v is passed = append-go _ _ v is passed

reserved-passed : (t : List ℕ) (v : Verdict) → v ≡ first_of (reserved_tests t 24 12) → v ≡ Accepted
    → first_of (from-reserved t) ≡ check_of t → first_of (from_last t) ≡ check_of t
reserved-passed t v is passed before = append-go _ _ v is passed ∙ before

last-passed : (t : List ℕ) (v : Verdict) → v ≡ first_of (reserved_tests t 42 6) → v ≡ Accepted
    → first_of (from_last t) ≡ check_of t → first_of (from_parts t) ≡ check_of t
last-passed t v is passed before = append-go _ _ v is passed ∙ before

pub returns-in_err-check_header : goal.returns-in_err-check_header
unfolding check_of check_tests
returns-in_err-check_header c =
    let refused = c.in_err-check_header.was in
    check-promise _ _ (returned _ _ _ c.from_residual.ensures.1 refused ∙ append-stop _ _ _ c.check_header.ensures _ refused)

pub returns-in_err-check_reserved : goal.returns-in_err-check_reserved
returns-in_err-check_reserved c =
    let header = header-passed c.args.t.now _ c.check_header.ensures c.in_ok-check_header.was in
    let refused = c.in_err-check_reserved.was in
    check-promise _ _ (
    returned _ _ _ c.from_residual-in_err-check_reserved.ensures.1 refused
    ∙ append-stop _ _ _ c.check_reserved.ensures _ refused ∙ header
    )

pub returns-in_err-check_reserved-2 : goal.returns-in_err-check_reserved-2
returns-in_err-check_reserved-2 c =
    let t = c.args.t.now in
    let header = header-passed t _ c.check_header.ensures c.in_ok-check_header.was in
    let reserved = reserved-passed t _ c.check_reserved.ensures c.in_ok-check_reserved.was header in
    let refused = c.in_err-check_reserved-2.was in
    check-promise _ _ (
    returned _ _ _ c.from_residual-in_err-check_reserved-2.ensures.1 refused
    ∙ append-stop _ _ _ c.check_reserved-2.ensures _ refused ∙ reserved
    )

pub returns : goal.returns
returns c =
    let t = c.args.t.now in
    let header = header-passed t _ c.check_header.ensures c.in_ok-check_header.was in
    let reserved = reserved-passed t _ c.check_reserved.ensures c.in_ok-check_reserved.was header in
    let last = last-passed t _ c.check_reserved-2.ensures c.in_ok-check_reserved-2.was reserved in
    check-promise _ _ (c.check_parts.ensures ∙ last)
