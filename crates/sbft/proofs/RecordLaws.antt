-- The readings of a table that the check accepts give what the table means: each is shown the table from its part on, and only
-- the IB part can be absent. Assumes nothing.
use mathlib.Core.Path.{◌≡◌, refl}
use mathlib.Core.Bool.{Bool, true, false}
use mathlib.Core.List.{List, [], ◌∷◌}
use Prim.Native.Nat.{ℕ}
use Rattle.table_header.specs.Verdict.{refuse, first_of, refusal_of, shown, Accepted}
use Rattle.table_header.proofs.VerdictLaws.{append-accepted}
use Rattle.sbft.specs.Layout.{part_of, absent}
use Rattle.sbft.specs.Check.{check_tests, check_of}
use Rattle.sbft.specs.Readings.{record_at, record_of, start_of, part_verdict, part_in, scsi_of, srp_of, ib_of}
use Rattle.sbft.specs.Promises.{Reads, ReadsRecord, ib_read}

module _ (t : List ℕ) (e : check_of t ≡ Accepted) where
  verdict-is : (k : ℕ) → part_verdict t k ≡ first_of (refuse 22 0 (absent t k) ∷ [])
  unfolding check_of part_verdict
  verdict-is k = append-accepted (check_tests t) (refuse 22 0 (absent t k) ∷ []) e

  scsi-there : part_verdict t 0 ≡ Accepted
  unfolding first_of absent part_of
  scsi-there = verdict-is 0

  srp-there : part_verdict t 1 ≡ Accepted
  unfolding first_of absent part_of
  srp-there = verdict-is 1

  ib-by : (lacks : Bool) → absent t 2 ≡ lacks → ib_of t ≡ ib_read (record_of t).ib
  unfolding first_of ib_of part_in refusal_of shown record_of record_at
  ib-by true a = rw (verdict-is 2, a)
  ib-by false a = rw (verdict-is 2, a)

  reads : Reads t
  unfolding start_of scsi_of srp_of part_in refusal_of shown record_of record_at
  reads = record { start = rw e; scsi = rw scsi-there; srp = rw srp-there; ib = ib-by (absent t 2) refl }

pub reads-record : ReadsRecord
reads-record t e = reads t e
