-- Laws of a written a_b_f_t: what its writers leave, that it passes the check and reads back.
--     fields-put, table-put                 what the writers of the fields and of the table leave
--     passes, reads-back                    the table, with any bytes behind it
--     promise-refused, promise-accepted     what is promised of a write
--     fits                                  an accepted write has the room that it needs
-- Assumes nothing.
use mathlib.Core.Path.{◌≡◌, refl, sym, ap, ap₂, ◌∙◌}
use mathlib.Core.Bool.{true}
use mathlib.Core.List.{List, [], ◌∷◌, ◌++◌}
use Prim.Native.Nat.{ℕ, ◌+◌, ◌*◌, ◌≤◌, ◌<◌}
use native.Mathlib.Omega.{arith}
use lib.ListN.{length, take, drop, length-set}
use Rattle.octets.specs.Octets.{byte, word16, bytes_past, bytes_at, zeros, checksum, write}
use Rattle.octets.specs.Promises.{ChecksumByte}
use Rattle.octets.proofs.LiesLaws.{lies-front, lies-middle}
use Rattle.octets.proofs.ReadLaws.{length-bytes_past}
use Rattle.octets.proofs.WriteLaws.{write-halves}
use Rattle.scan.specs.Scan.{abft}
use Rattle.table_header.specs.Header.{length_of, padded, header_tests, reserved_tests, headed, sealed}
use Rattle.table_header.specs.Write.{written_from, room_from}
use Rattle.table_header.specs.declared.verdict.Refusal.{Refusal}
use Rattle.table_header.specs.Verdict.{Verdict, Accepted, Refused}
use Rattle.table_header.specs.declared.write.Written.{Written}
use Rattle.table_header.proofs.VerdictLaws.{append-accepted}
use Rattle.table_header.proofs.HeaderLaws.{reserved-zeros}
use Rattle.table_header.proofs.SealedLaws.{Sealed, length_back, oem-id-back, oem-table-id-back, behind-byte, behind-lies, behind-bytes}
use Rattle.table_header.proofs.SealedLaws.{header-passes, sealed-stands}
use Rattle.table_header.proofs.WriteLaws.{behind-put, sealed-put, write-accepted, room-kept, room-filled, writes}
use Rattle.abft.specs.Abft.{check_tests, check_of, record_of, table_of, write_verdict, written_of, room_after}
use Rattle.abft.specs.Promises.{Write}

-- what stands behind the header
abbrev behind : List ℕ → List ℕ
behind image = zeros 12 ++ (bytes_at image 36 3 ++ (0 ∷ bytes_at image 40 6))

-- the table before its checksum is set
abbrev bare : List ℕ → List ℕ
bare image = headed abft.signature abft.least (bytes_at image 10 6) (bytes_at image 16 8) (behind image)

-- ---- what the writers leave

pub fields-put : (t u v w x image target mac : List ℕ) → u ≡ write t 24 (zeros 12) → target ≡ bytes_at image 36 3 → v ≡ write u 36 target
    → w ≡ write v 39 (0 ∷ []) → mac ≡ bytes_at image 40 6 → x ≡ write w 40 mac → x ≡ write t 24 (behind image)
unfolding zeros bytes_past
fields-put t u v w x image target mac eu ep ev ew em ex =
    let first : v ≡ write t 24 (zeros 12 ++ bytes_at image 36 3) =
    write-halves t u v 24 36 (zeros 12) (bytes_at image 36 3) _ eu (ev ∙ ap (write u 36) ep) refl refl in
    let second : w ≡ write t 24 (zeros 12 ++ (bytes_at image 36 3 ++ (0 ∷ []))) =
    write-halves t v w 24 39 (zeros 12 ++ bytes_at image 36 3) (0 ∷ []) _ first ew refl refl in
    write-halves t w x 24 40 (zeros 12 ++ (bytes_at image 36 3 ++ (0 ∷ []))) (bytes_at image 40 6) _ second (ex ∙ ap (write w 40) em) refl refl

bare-length : (image : List ℕ) → length (bare image) ≡ abft.least
unfolding headed zeros bytes_past
bare-length image = refl

-- a room that takes the table
pub table-put : (image t u v w : List ℕ) → abft.least ≤ length t
    → u ≡ write t 0 (headed abft.signature abft.least (bytes_at image 10 6) (bytes_at image 16 8) []) → v ≡ write u 24 (behind image)
    → w ≡ write v 9 (checksum (take abft.least v) 9 ∷ []) → w ≡ table_of image ++ drop (length (table_of image)) t
unfolding table_of
table-put image t u v w fits eu ev ew =
    let all = behind-put abft.signature abft.least (bytes_at image 10 6) (bytes_at image 16 8) (behind image)
    (length-bytes_past image 10 0 6) (length-bytes_past image 16 0 8) t u v eu ev in
    sealed-put t v w (bare image) abft.least (bare-length image) (omega arith) fits all ew

-- ---- the table, with any bytes behind it

module _ (image rest : List ℕ) where
  abbrev table : List ℕ
  table = table_of image ++ rest

  stands : Sealed table abft.signature abft.least (bytes_at image 10 6) (bytes_at image 16 8) (behind image)
  unfolding table_of zeros bytes_past
  stands = record { rest = rest; is = refl; six = refl; eight = refl; whole = refl }

  length-is : length_of table ≡ abft.least
  length-is = length_back _ _ _ _ _ _ stands (omega arith)

  -- byte i behind the header
  at : (i : ℕ) → i < 22 → byte table (24 + i) ≡ byte (behind image) i
  unfolding zeros bytes_past
  at i h = behind-byte _ _ _ _ _ _ stands i (omega arith)

  pub passes : padded (bytes_at image 10 6) ≡ true → padded (bytes_at image 16 8) ≡ true → check_of table ≡ Accepted
  unfolding check_of check_tests zeros bytes_past
  passes id table_id =
      let header = header-passes _ _ _ _ _ _ stands abft.least abft.least (omega arith) (omega arith) (omega arith) (omega arith) id table_id in
      let front = lies-front (zeros 12) (bytes_at image 36 3 ++ (0 ∷ bytes_at image 40 6)) in
      let second = lies-middle (zeros 12 ++ bytes_at image 36 3) (zeros 1) (bytes_at image 40 6) 15 refl in
      append-accepted (header_tests abft.signature abft.least abft.least table) _ header
      ∙ append-accepted (reserved_tests table 24 12) (reserved_tests table 39 1)
      (reserved-zeros table 24 12 (behind-lies _ _ _ _ _ _ stands 0 (zeros 12) (omega arith) front))
      ∙ reserved-zeros table 39 1 (behind-lies _ _ _ _ _ _ stands 15 (zeros 1) (omega arith) second)

  pub reads-back : record_of table ≡ record_of image
  unfolding record_of zeros bytes_past
  reads-back =
      let shelf : word16 table 36 ≡ word16 image 36 = ap₂ (λ (low high : ℕ). low + 256 * high) (at 12 (omega arith)) (at 13 (omega arith)) in
      let slot : byte table 38 ≡ byte image 38 = at 14 (omega arith) in
      let mac : bytes_at table 40 6 ≡ bytes_at image 40 6 = behind-bytes _ _ _ _ _ _ stands 16 6 (omega arith) in
      rw (oem-id-back _ _ _ _ _ _ stands, oem-table-id-back _ _ _ _ _ _ stands, shelf, slot, mac)

-- ---- the promise

table-length : (image : List ℕ) → length (table_of image) ≡ abft.least
unfolding table_of sealed
table-length image = length-set (bare image) 9 (checksum (bare image) 9) ∙ bare-length image

checksum-stands : (image : List ℕ) → ChecksumByte (table_of image) 9 (byte (table_of image) 9)
unfolding table_of
checksum-stands image = sealed-stands _ (omega (arith, table-length image))

module _ (image before : List ℕ) (v : Verdict) (judged : v ≡ write_verdict image (length before)) where
  promise : (answer : Written) (after : List ℕ) → answer ≡ written_from abft.least v → after
      ≡ room_from (table_of image) before v → Write image before answer after
  unfolding written_of room_after write_verdict
  promise =
      writes check_of record_of (record_of image) (bytes_at image 10 6) (bytes_at image 16 8) (table_of image) before
      abft.least (table-length image) (checksum-stands image) (length-is image)
      (λ id table_id rest. record { passes = passes image rest id table_id; reads-back = reads-back image rest }) v judged

  pub promise-refused : (answer : Written) (r : Refusal) → v ≡ Refused r → answer ≡ written_from abft.least v → Write image before answer before
  promise-refused answer r e ea = promise answer before ea (room-kept (table_of image) before v r e)

  pub promise-accepted : (answer : Written) (after : List ℕ) → v ≡ Accepted → answer ≡ written_from abft.least v
      → after ≡ table_of image ++ drop (length (table_of image)) before → Write image before answer after
  promise-accepted answer after e ea er = promise answer after ea (er ∙ room-filled (table_of image) before v e)

  -- an accepted write has the room that it needs
  pub fits : v ≡ Accepted → abft.least ≤ length before
  unfolding write_verdict
  fits e = (write-accepted (bytes_at image 10 6) (bytes_at image 16 8) abft.least (length before) (sym judged ∙ e)).2
