-- What an s_b_f_t means, and its readings: the check, then 22 for an IB part that is absent. Assumes nothing: these are
-- definitions.
use Rattle.std.specs.Prelude.{ℕ, List, [], ◌∷◌, ◌++◌, cond, drop, ltb, Option, None, Some}
use Rattle.octets.specs.Octets.{word16, bytes_at, part}
use Rattle.table_header.specs.Verdict.{refuse, first_of, refusal_of, shown, Verdict}
use Rattle.sbft.specs.Layout.{part_count, part_of, offset_of, absent}
use Rattle.sbft.specs.Check.{check_tests, check_of}
use Rattle.sbft.specs.declared.fields.Start.{Start}
use Rattle.sbft.specs.declared.fields.Scsi.{Scsi}
use Rattle.sbft.specs.declared.fields.Srp.{Srp}
use Rattle.sbft.specs.declared.fields.Ib.{Ib}
use Rattle.sbft.specs.declared.reading.StartReading.{StartReading}
use Rattle.sbft.specs.declared.reading.ScsiReading.{ScsiReading}
use Rattle.sbft.specs.declared.reading.SrpReading.{SrpReading}
use Rattle.sbft.specs.declared.reading.IbReading.{IbReading}

-- ---- fields, from the bytes that start at the table or at the part; of no bytes every field is 0

unfoldable pub start_in : List ℕ → Start
start_in t = record { oem_id = bytes_at t 10 6; oem_table_id = bytes_at t 16 8 }

unfoldable pub scsi_in : List ℕ → Scsi
scsi_in p = record { lun = bytes_at p 0 8 }

unfoldable pub srp_in : List ℕ → Srp
srp_in p = record { initiator_port = bytes_at p 0 16; target_port = bytes_at p 16 16 }

unfoldable pub ib_in : List ℕ → Ib
ib_in p =
    record {
      source_gid = bytes_at p 0 16;
      destination_gid = bytes_at p 16 16;
      service = bytes_at p 32 8;
      partition_key = word16 p 40;
    }

-- ---- what a table means

pub record Record : Type 0 where
  pub start : Start
  pub scsi : Scsi
  pub srp : Srp
  pub ib : Option Ib

-- the record of bytes that have part k at `place k`
unfoldable pub record_at : (ℕ → ℕ) → List ℕ → Record
record_at place t =
    record {
      start = start_in t;
      scsi = scsi_in (drop (place 0) t);
      srp = srp_in (drop (place 1) t);
      ib = cond (absent t 2) None (Some (ib_in (drop (place 2) t)));
    }

unfoldable pub record_of : List ℕ → Record
record_of t = record_at (offset_of t) t

-- ---- readings

-- the OEM fields: the check's refusals only
unfoldable pub start_of : List ℕ → StartReading
start_of t = record { refusal = refusal_of (check_of t); fields = start_in (shown (check_of t) t) }

-- part k: the check, then 22 where it is absent, which only the IB part can be
unfoldable pub part_verdict : List ℕ → ℕ → Verdict
part_verdict t k = first_of (check_tests t ++ (refuse 22 0 (absent t k) ∷ []))

-- the table from part k on; nothing where its reading is refused
unfoldable pub part_in : List ℕ → ℕ → List ℕ
part_in t k = shown (part_verdict t k) (drop (offset_of t k) t)

unfoldable pub scsi_of : List ℕ → ScsiReading
scsi_of t = record { refusal = refusal_of (part_verdict t 0); fields = scsi_in (part_in t 0) }

unfoldable pub srp_of : List ℕ → SrpReading
srp_of t = record { refusal = refusal_of (part_verdict t 1); fields = srp_in (part_in t 1) }

unfoldable pub ib_of : List ℕ → IbReading
ib_of t = record { refusal = refusal_of (part_verdict t 2); fields = ib_in (part_in t 2) }

-- part k shown: its bytes; none where its reading is refused, and none where no part has that number
unfoldable pub part_view_of : List ℕ → ℕ → List ℕ
part_view_of t k = cond (ltb k part_count) (shown (part_verdict t k) (part t (offset_of t k) (part_of k).size)) []
