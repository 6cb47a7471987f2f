-- What the check, the view of a part and the write of an s_b_f_t promise. (A reading promises an equation, `r ≡ ib_of t`; a scan
-- what every scan does, of the family `sbft`.)
use Rattle.std.specs.Prelude.{◌≡◌, List, [], ℕ, ◌≤◌, ◌<◌, length, Option, None, Some}
use Rattle.std.specs.Borrow.{Bor}
use Rattle.octets.specs.View.{Shows}
use Rattle.table_header.specs.Verdict.{refusal, refusal_of, Accepted, Verdict}
use Rattle.table_header.specs.Promises.{Judges, Writes}
use Rattle.table_header.specs.declared.write.Written.{Written}
use Rattle.sbft.specs.Check.{check_tests, check_of}
use Rattle.sbft.specs.Layout.{part_count, part_of, offset_of}
use Rattle.sbft.specs.Readings.{record_of, ib_in, start_of, scsi_of, srp_of, ib_of, part_verdict, part_view_of}
use Rattle.sbft.specs.declared.fields.Ib.{Ib}
use Rattle.sbft.specs.declared.reading.IbReading.{IbReading}
use Rattle.sbft.specs.Write.{record_given, written_of, room_after}

-- the verdict is that of the first test that fails
abbrev pub Check : List ℕ → Verdict → Type 0
Check t v = Judges t (check_tests t) (check_of t) v

-- the number that a reading of part k returns: 0 where it is accepted
abbrev pub part_number : List ℕ → ℕ → ℕ
part_number t k = (refusal_of (part_verdict t k)).number

-- part k shown
pub record PartView (lent : Bor (List ℕ)) (k : ℕ) (view : Bor (List ℕ)) : Type 0 where
  -- its bytes are the definition's
  pub view-is : view.now ≡ part_view_of lent.now k
  -- present: that stretch of the lent table
  pub shows : k < part_count → part_number lent.now k ≡ 0 → Shows lent view (offset_of lent.now k) (part_of k).size
  -- refused: empty; where it stands is free
  pub refused : (part_number lent.now k ≡ 0 → ⊥) → view.now ≡ []
  -- a number that no part has: empty
  pub beyond : part_count ≤ k → view.now ≡ []

-- the record of the image, written into a room that held `before` and holds `after`, passes the check and reads back
abbrev pub Write : List ℕ → List ℕ → Written → List ℕ → Type 0
Write image before answer after =
    Writes check_of record_of (record_given image) (written_of image (length before)) (room_after image before) before answer after

-- the reading of an IB part: its fields, or 22 where it is absent
abbrev pub ib_read : Option Ib → IbReading
ib_read None = record { refusal = refusal 22 0; fields = ib_in [] }
ib_read (Some fields) = record { refusal = refusal_of Accepted; fields = fields }

-- each reading of the table gives its part of what the table means
pub record Reads (t : List ℕ) : Type 0 where
  pub start : start_of t ≡ record { refusal = refusal_of Accepted; fields = (record_of t).start }
  pub scsi : scsi_of t ≡ record { refusal = refusal_of Accepted; fields = (record_of t).scsi }
  pub srp : srp_of t ≡ record { refusal = refusal_of Accepted; fields = (record_of t).srp }
  pub ib : ib_of t ≡ ib_read (record_of t).ib

-- of every table that the check accepts, so of every one that was written
abbrev pub ReadsRecord : Type 0
ReadsRecord = (t : List ℕ) → check_of t ≡ Accepted → Reads t
