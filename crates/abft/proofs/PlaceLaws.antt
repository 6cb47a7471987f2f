-- The place of a refusal of the check or of a write lies below 2^24: all places are those of the table's own bytes. Assumes
-- nothing.
use mathlib.Core.Path.{◌≡◌}
use mathlib.Core.List.{List}
use Prim.Native.Nat.{ℕ}
use native.Mathlib.Omega.{arith}
use Rattle.octets.specs.Octets.{bytes_at}
use Rattle.scan.specs.Scan.{abft}
use Rattle.table_header.specs.Verdict.{refusal_of, Verdict}
use Rattle.table_header.proofs.VerdictLaws.{every_append}
use Rattle.table_header.proofs.PlaceLaws.{Below, every-header, every-reserved, verdict-below, written_below}
use Rattle.abft.specs.Abft.{check_tests, check_of, write_verdict, written_of}

pub check-below : (t : List ℕ) (v : Verdict) → v ≡ check_of t → Below (refusal_of v)
unfolding check_of check_tests
check-below t v e =
    verdict-below (check_tests t)
    (every_append (every-header abft.signature abft.least abft.least t)
    (every_append (every-reserved t 24 12 (omega arith)) (every-reserved t 39 1 (omega arith)))) v e

pub write-below : (image : List ℕ) (n : ℕ) → Below (written_of image n).refusal
unfolding written_of write_verdict
write-below image n = written_below (bytes_at image 10 6) (bytes_at image 16 8) abft.least n
