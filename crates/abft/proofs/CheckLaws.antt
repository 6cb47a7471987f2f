-- Laws of the check of an a_b_f_t.
--     check-promise     what is promised of it, from its verdict
-- Assumes nothing.
use mathlib.Core.Path.{◌≡◌}
use mathlib.Core.List.{List}
use Prim.Native.Nat.{ℕ}
use native.Mathlib.Omega.{arith}
use Rattle.table_header.specs.Verdict.{Verdict}
use Rattle.table_header.proofs.VerdictLaws.{every_append}
use Rattle.table_header.proofs.JudgesLaws.{reserved-plain, judges}
use Rattle.abft.specs.Abft.{check_tests, check_of}
use Rattle.abft.specs.Promises.{Check}

pub check-promise : (t : List ℕ) (v : Verdict) → v ≡ check_of t → Check t v
unfolding check_of check_tests
check-promise t v e = judges t _ _ _ (omega arith) _ (every_append (reserved-plain t 24 12) (reserved-plain t 39 1)) v e
