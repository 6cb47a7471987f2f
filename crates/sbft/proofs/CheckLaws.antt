-- Laws of the check of an s_b_f_t.
--     check-promise     what is promised of it, from its verdict
-- Assumes nothing.
use mathlib.Core.Path.{◌≡◌}
use mathlib.Core.List.{List}
use Prim.Native.Nat.{ℕ}
use native.Mathlib.Omega.{arith}
use Rattle.table_header.specs.Verdict.{Verdict}
use Rattle.table_header.proofs.VerdictLaws.{every-none, every_append, every-gather, every-cond}
use Rattle.table_header.proofs.JudgesLaws.{test_plain, reserved-plain, judges}
use Rattle.sbft.specs.Layout.{part_count, absent}
use Rattle.sbft.specs.Check.{outside_tests, overlap_tests, ib_tests, check_tests, check_of}
use Rattle.sbft.specs.Promises.{Check}

pub check-promise : (t : List ℕ) (v : Verdict) → v ≡ check_of t → Check t v
unfolding check_of check_tests outside_tests overlap_tests ib_tests
check-promise t v e =
    judges t _ _ _ (omega arith) _
    (every_append (reserved-plain t 24 12)
    (every_append (reserved-plain t 42 6)
    (every_append (every-gather (outside_tests t) part_count 0 (λ k h. test_plain _ _ _ _ (λ n. omega arith) every-none))
    (every_append (every-gather (overlap_tests t) part_count 0 (λ k h. test_plain _ _ _ _ (λ n. omega arith) every-none))
    (every-cond (absent t 2) every-none (reserved-plain t _ 6)))))) v e
