-- The AoE Boot Firmware Table (source document 003), 46 bytes: the header; reserved 24 to 35; shelf 36 (2), slot 38; reserved
-- 39; MAC 40 (6). Assumes nothing: these are definitions.
use Rattle.std.specs.Prelude.{ℕ, List, ◌∷◌, ◌++◌, length}
use Rattle.octets.specs.Octets.{byte, word16, bytes_at, zeros}
use Rattle.scan.specs.Scan.{abft}
use Rattle.table_header.specs.Verdict.{Test, first_of, refusal_of, shown, Verdict}
use Rattle.table_header.specs.Header.{header_tests, reserved_tests, headed, sealed}
use Rattle.table_header.specs.Write.{write_tests, written_from, room_from}
use Rattle.table_header.specs.declared.write.Written.{Written}
use Rattle.abft.specs.declared.fields.Abft.{Abft}
use Rattle.abft.specs.declared.reading.AbftReading.{AbftReading}

-- ---- the check: the header, then the reserved bytes

unfoldable pub check_tests : List ℕ → List Test
check_tests t =
    header_tests abft.signature abft.least abft.least t ++ (reserved_tests t 24 12 ++ reserved_tests t 39 1)

unfoldable pub check_of : List ℕ → Verdict
check_of t = first_of (check_tests t)

-- ---- what a table means: its fields; of no bytes every field is 0

unfoldable pub record_of : List ℕ → Abft
record_of t =
    record {
      oem_id = bytes_at t 10 6;
      oem_table_id = bytes_at t 16 8;
      shelf = word16 t 36;
      slot = byte t 38;
      mac = bytes_at t 40 6;
    }

-- the reading: the check's refusals only
unfoldable pub abft_of : List ℕ → AbftReading
abft_of t = record { refusal = refusal_of (check_of t); fields = record_of (shown (check_of t) t) }

-- ---- writing. The record is given as an image of the table: each field at its own place, no other byte is looked at, and a
-- byte that is not lent is 0.

unfoldable pub table_of : List ℕ → List ℕ
table_of image =
    sealed
    (headed abft.signature abft.least (bytes_at image 10 6) (bytes_at image 16 8)
    (zeros 12 ++ (bytes_at image 36 3 ++ (0 ∷ bytes_at image 40 6))))

-- 8, then 21 where 46 exceeds the room of n bytes
unfoldable pub write_verdict : List ℕ → ℕ → Verdict
write_verdict image n = first_of (write_tests (bytes_at image 10 6) (bytes_at image 16 8) abft.least n)

unfoldable pub written_of : List ℕ → ℕ → Written
written_of image n = written_from abft.least (write_verdict image n)

unfoldable pub room_after : List ℕ → List ℕ → List ℕ
room_after image room = room_from (table_of image) room (write_verdict image (length room))
