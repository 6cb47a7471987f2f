-- The place of a refusal of the check or of a write lies below 2^24: the last is that of a reserved byte of an IB part whose
-- offset has two bytes. Assumes nothing.
use mathlib.Core.Path.{◌≡◌}
use mathlib.Core.List.{List}
use Prim.Native.Nat.{ℕ, zero, suc, ◌<◌, ◌^◌}
use native.Mathlib.Omega.{arith}
use Rattle.octets.specs.Octets.{byte, bytes_at}
use Rattle.scan.specs.Scan.{sbft}
use Rattle.table_header.specs.Verdict.{refusal_of, Verdict}
use Rattle.table_header.proofs.VerdictLaws.{every-none, every_append, every-gather, every-cond}
use Rattle.table_header.proofs.PlaceLaws.{Below, AllBelow, test_below, every-header, every-reserved, verdict-below, written_below}
use Rattle.sbft.specs.Layout.{part_count, part_of, offset_of, absent}
use Rattle.sbft.specs.Check.{outside_tests, overlap_tests, ib_tests, check_tests, check_of}
use Rattle.sbft.specs.Write.{length_written, write_verdict, written_of}

-- the offset words stand in the table's start
word_below : (k : ℕ) → k < part_count → (part_of k).word < 2 ^ 24
unfolding part_of
word_below zero h = omega arith
word_below (suc zero) h = omega arith
word_below (suc (suc zero)) h = omega arith
word_below (suc (suc (suc k))) h = absurd (omega arith)

module _ (t : List ℕ) (bytes : (i : ℕ) → byte t i < 256) where
  ib-below : AllBelow (ib_tests t)
  unfolding ib_tests offset_of part_of
  ib-below = every-cond (absent t 2) every-none (every-reserved t _ 6 (omega (arith, bytes 40, bytes 41)))

  pub check-below : (v : Verdict) → v ≡ check_of t → Below (refusal_of v)
  unfolding check_of check_tests outside_tests overlap_tests
  check-below v e =
      verdict-below (check_tests t)
      (every_append (every-header sbft.signature sbft.least sbft.least t)
      (every_append (every-reserved t 24 12 (omega arith))
      (every_append (every-reserved t 42 6 (omega arith))
      (every_append (every-gather (outside_tests t) part_count 0 (λ k h. test_below _ _ (word_below k h) every-none))
      (every_append (every-gather (overlap_tests t) part_count 0 (λ k h. test_below _ _ (word_below k h) every-none)) ib-below))))) v e

pub write-below : (image : List ℕ) (n : ℕ) → Below (written_of image n).refusal
unfolding written_of write_verdict
write-below image n = written_below (bytes_at image 10 6) (bytes_at image 16 8) (length_written image) n
