-- Laws of a written s_b_f_t: what its writer leaves, that it passes the check and reads back. Whether the IB part is absent is one
-- Bool, `lacks`: all other bytes stand at the same places.
--     table-put                             what the table's writer leaves
--     passes, reads-back                    the table, with any bytes behind it
--     promise-refused, promise-accepted     what is promised of a write
--     fits                                  an accepted write has the room that it needs
-- Assumes nothing.
use Rattle.std.specs.Prelude.{None, Some}
use mathlib.Core.Path.{◌≡◌, refl, sym, ap, ap₂, ◌∙◌}
use mathlib.Core.Bool.{Bool, true, false, cond}
use mathlib.Core.List.{List, [], ◌∷◌, ◌++◌}
use Prim.Native.Nat.{ℕ, ◌+◌, ◌*◌, ◌/◌, ◌%◌, ◌≤◌, ◌<◌}
use native.Mathlib.Omega.{arith}
use lib.ListN.{length, take, drop, length-set}
use lib.Dec.{eqb}
use Rattle.octets.specs.Counting.{first, any, gather}
use Rattle.octets.specs.Octets.{byte, word16, le16, bytes_past, bytes_at, zeros, checksum, write}
use Rattle.octets.specs.Promises.{ChecksumByte}
use Rattle.octets.proofs.LiesLaws.{lies-front, lies-middle, lies-last}
use Rattle.octets.proofs.ReadLaws.{length-bytes_past, bytes-from}
use Rattle.scan.specs.Scan.{sbft}
use Rattle.table_header.specs.Verdict.{first_of, Verdict, Accepted, Refused}
use Rattle.table_header.specs.Header.{length_of, padded, header_tests, reserved_tests, headed, sealed}
use Rattle.table_header.specs.Write.{written_from, room_from}
use Rattle.table_header.specs.declared.verdict.Refusal.{Refusal}
use Rattle.table_header.specs.declared.write.Written.{Written}
use Rattle.table_header.proofs.VerdictLaws.{accept-none, append-accepted}
use Rattle.table_header.proofs.HeaderLaws.{reserved-zeros}
use Rattle.table_header.proofs.SealedLaws.{Sealed, length_back, oem-id-back, oem-table-id-back, behind-byte, behind-lies, behind-bytes}
use Rattle.table_header.proofs.SealedLaws.{header-passes, sealed-stands}
use Rattle.table_header.proofs.WriteLaws.{behind-put, sealed-put, write-accepted, room-kept, room-filled, writes}
use Rattle.sbft.specs.Layout.{part_count, part_of, offset_of, absent, end_of}
use Rattle.sbft.specs.Check.{outside, outside_tests, overlap, overlap_tests, ib_tests, check_tests, check_of}
use Rattle.sbft.specs.Readings.{start_in, scsi_in, srp_in, ib_in, record_at, record_of}
use Rattle.sbft.specs.Write.{place_of, record_given, length_written, word_written, ib_written, table_of, write_verdict, written_of, room_after}
use Rattle.sbft.specs.Promises.{Write}

-- ---- the bytes of a table

-- what stands behind the header
abbrev behind : Bool → List ℕ → List ℕ
behind lacks image =
    zeros 12
    ++ (le16 48
    ++ (le16 56
    ++ (le16 (cond lacks 0 88) ++ (zeros 6 ++ (bytes_at image 48 8 ++ (bytes_at image 56 32 ++ cond lacks [] (bytes_at image 88 42 ++ zeros 6)))))))

abbrev long : Bool → ℕ
long lacks = 88 + cond lacks 0 48

-- the table before its checksum is set
abbrev bare : Bool → List ℕ → List ℕ
bare lacks image = headed sbft.signature (long lacks) (bytes_at image 10 6) (bytes_at image 16 8) (behind lacks image)

table_is : (image : List ℕ) → table_of image ≡ sealed (bare (absent image 2) image)
unfolding table_of length_written word_written ib_written place_of part_of absent gather zeros
table_is image = refl

behind-length : (lacks : Bool) (image : List ℕ) → 24 + length (behind lacks image) ≡ long lacks
unfolding zeros bytes_past
behind-length true image = refl
behind-length false image = refl

bare-length : (lacks : Bool) (image : List ℕ) → length (bare lacks image) ≡ long lacks
unfolding headed zeros bytes_past
bare-length true image = refl
bare-length false image = refl

-- a room that takes the table
pub table-put : (image t u v w : List ℕ) (size : ℕ) → size ≡ length_written image → size ≤ length t
    → u ≡ write t 0 (headed sbft.signature size (bytes_at image 10 6) (bytes_at image 16 8) [])
    → v
    ≡ write u 24
    (zeros 12
    ++ (gather (word_written image) 0 part_count ++ (zeros 6 ++ (bytes_at image 48 8 ++ (bytes_at image 56 32 ++ ib_written image)))))
    → w ≡ write v 9 (checksum (take size v) 9 ∷ []) → w ≡ table_of image ++ drop (length (table_of image)) t
unfolding length_written word_written ib_written place_of part_of absent gather zeros
table-put image t u v w size es fits eu ev ew =
    let lacks = absent image 2 in
    let bytes : List ℕ = behind lacks image in
    let small : 9 < size = omega arith in
    let all = behind-put sbft.signature size (bytes_at image 10 6) (bytes_at image 16 8) bytes
    (length-bytes_past image 10 0 6) (length-bytes_past image 16 0 8) t u v eu ev in
    let whole = rw es at all in
    rw (table_is image) (sealed-put t v w (bare lacks image) size (bare-length lacks image ∙ sym es) small fits whole ew)

-- ---- what the check reads in it

-- parts at 48 and 56, and one at 88 or none
laid : (t : List ℕ) (lacks : Bool) → offset_of t 0 ≡ 48 → offset_of t 1 ≡ 56 → offset_of t 2 ≡ cond lacks 0 88 → length_of t ≡ long lacks
    → first_of (cond lacks [] (reserved_tests t 130 6)) ≡ Accepted
    → first_of (gather (outside_tests t) 0 part_count ++ (gather (overlap_tests t) 0 part_count ++ ib_tests t)) ≡ Accepted
unfolding first_of gather outside_tests outside overlap_tests overlap ib_tests any first absent end_of part_of
laid t true o p q n rest = rw (o, p, q, n) rest
laid t false o p q n rest = rw (o, p, q, n) rest

-- two bytes of a number below 256, read again
word_back : (lacks : Bool) → cond lacks 0 88 % 256 + 256 * (cond lacks 0 88 / 256 % 256) ≡ cond lacks 0 88
word_back true = refl
word_back false = refl

-- ---- fields by the bytes of their part

scsi-same : (p q : List ℕ) → bytes_at p 0 8 ≡ bytes_at q 0 8 → scsi_in p ≡ scsi_in q
unfolding scsi_in
scsi-same p q e = rw e

srp-same : (p q : List ℕ) → bytes_at p 0 32 ≡ bytes_at q 0 32 → srp_in p ≡ srp_in q
unfolding srp_in bytes_past
srp-same p q e = ap (λ (l : List ℕ). record { initiator_port = take 16 l; target_port = drop 16 l }) e

ib-same : (p q : List ℕ) → bytes_at p 0 42 ≡ bytes_at q 0 42 → ib_in p ≡ ib_in q
unfolding ib_in bytes_past
ib-same p q e =
    ap (λ (l : List ℕ). record {
      source_gid = take 16 l;
      destination_gid = take 16 (drop 16 l);
      service = take 8 (drop 32 l);
      partition_key = word16 l 40;
    }) e

-- ---- the table, with any bytes behind it

module _ (image rest : List ℕ) where
  abbrev table : List ℕ
  table = table_of image ++ rest

  stands : (lacks : Bool) → absent image 2 ≡ lacks → Sealed table sbft.signature (long lacks) (bytes_at image 10 6) (bytes_at image 16 8) (behind lacks image)
  unfolding bytes_past
  stands lacks e =
      record {
        rest = rest;
        is = ap (λ (l : List ℕ). l ++ rest) (table_is image) ∙ ap (λ (b : Bool). sealed (bare b image) ++ rest) e;
        six = refl;
        eight = refl;
        whole = behind-length lacks image;
      }

  module _ (lacks : Bool) (e : absent image 2 ≡ lacks) where
    abbrev s : Sealed table sbft.signature (long lacks) (bytes_at image 10 6) (bytes_at image 16 8) (behind lacks image)
    s = stands lacks e

    small : long lacks < 4294967296
    small = go lacks
      where
        go : (b : Bool) → long b < 4294967296
        go true = omega arith
        go false = omega arith

    length_at : length_of table ≡ long lacks
    length_at = length_back _ _ _ _ _ _ s small

    -- byte i behind the header
    at : (i : ℕ) → i < 64 → byte table (24 + i) ≡ byte (behind lacks image) i
    at i h = behind-byte _ _ _ _ _ _ s i (omega (arith, behind-length lacks image))

    scsi-at : offset_of table 0 ≡ 48
    unfolding offset_of part_of zeros
    scsi-at = ap₂ (λ (low high : ℕ). low + 256 * high) (at 12 (omega arith)) (at 13 (omega arith))

    srp-at : offset_of table 1 ≡ 56
    unfolding offset_of part_of zeros
    srp-at = ap₂ (λ (low high : ℕ). low + 256 * high) (at 14 (omega arith)) (at 15 (omega arith))

    ib-at : offset_of table 2 ≡ cond lacks 0 88
    unfolding offset_of part_of zeros
    ib-at = ap₂ (λ (low high : ℕ). low + 256 * high) (at 16 (omega arith)) (at 17 (omega arith)) ∙ word_back lacks

    -- the bytes of the first two parts
    scsi-bytes : bytes_at (drop 48 table) 0 8 ≡ bytes_at (drop 48 image) 0 8
    unfolding zeros bytes_past
    scsi-bytes =
        bytes-from table 48 0 8 ∙ behind-bytes _ _ _ _ _ _ s 24 8 (omega (arith, behind-length lacks image)) ∙ sym (bytes-from image 48 0 8)

    srp-bytes : bytes_at (drop 56 table) 0 32 ≡ bytes_at (drop 56 image) 0 32
    unfolding zeros bytes_past
    srp-bytes =
        bytes-from table 56 0 32 ∙ behind-bytes _ _ _ _ _ _ s 32 32 (omega (arith, behind-length lacks image)) ∙ sym (bytes-from image 56 0 32)

    reserved-first : first_of (reserved_tests table 24 12) ≡ Accepted
    unfolding zeros
    reserved-first =
        reserved-zeros table 24 12
        (behind-lies _ _ _ _ _ _ s 0 (zeros 12) (omega (arith, behind-length lacks image)) (lies-front (zeros 12) (drop 12 (behind lacks image))))

    reserved-last : first_of (reserved_tests table 42 6) ≡ Accepted
    unfolding zeros
    reserved-last =
        reserved-zeros table 42 6
        (behind-lies _ _ _ _ _ _ s 18 (zeros 6) (omega (arith, behind-length lacks image))
        (lies-middle (zeros 12 ++ (le16 48 ++ (le16 56 ++ le16 (cond lacks 0 88)))) (zeros 6) (drop 24 (behind lacks image)) 18 refl))

    header : padded (bytes_at image 10 6) ≡ true → padded (bytes_at image 16 8) ≡ true
        → first_of (header_tests sbft.signature sbft.least sbft.least table) ≡ Accepted
    header = header-passes _ _ _ _ _ _ s sbft.least sbft.least (omega arith) small (omega arith) (omega arith)

    start_back : start_in table ≡ start_in image
    unfolding start_in
    start_back = rw (oem-id-back _ _ _ _ _ _ s, oem-table-id-back _ _ _ _ _ _ s)

  -- the IB part, where there is one
  ib-reserved : (lacks : Bool) → absent image 2 ≡ lacks → first_of (cond lacks [] (reserved_tests table 130 6)) ≡ Accepted
  unfolding zeros bytes_past
  ib-reserved true e = accept-none
  ib-reserved false e =
      reserved-zeros table 130 6
      (behind-lies _ _ _ _ _ _ (stands false e) 106 (zeros 6) (omega (arith, behind-length false image))
      (lies-last (take 106 (behind false image)) (zeros 6) 106 refl))

  absent-back : (lacks : Bool) → absent image 2 ≡ lacks → absent table 2 ≡ lacks
  unfolding absent part_of
  absent-back true e = ap (λ (offset : ℕ). eqb offset 0) (ib-at true e)
  absent-back false e = ap (λ (offset : ℕ). eqb offset 0) (ib-at false e)

  ib-back : (lacks : Bool) → absent image 2 ≡ lacks
      → cond (absent table 2) None (Some (ib_in (drop (offset_of table 2) table))) ≡ cond (absent image 2) None (Some (ib_in (drop (place_of 2) image)))
  unfolding zeros bytes_past place_of part_of
  ib-back true e = rw (absent-back true e, e)
  ib-back false e =
      let bytes : bytes_at (drop 88 table) 0 42 ≡ bytes_at (drop 88 image) 0 42 =
      bytes-from table 88 0 42 ∙ behind-bytes _ _ _ _ _ _ (stands false e) 64 42 (omega (arith, behind-length false image)) ∙ sym (bytes-from image 88 0 42) in
      rw (absent-back false e, e, ib-at false e) (ap Some (ib-same (drop 88 table) (drop 88 image) bytes))

  pub passes : padded (bytes_at image 10 6) ≡ true → padded (bytes_at image 16 8) ≡ true → check_of table ≡ Accepted
  unfolding check_of check_tests
  passes id table_id =
      let lacks = absent image 2 in
      append-accepted (header_tests sbft.signature sbft.least sbft.least table) _ (header lacks refl id table_id)
      ∙ append-accepted (reserved_tests table 24 12) _ (reserved-first lacks refl)
      ∙ append-accepted (reserved_tests table 42 6) _ (reserved-last lacks refl)
      ∙ laid table lacks (scsi-at lacks refl) (srp-at lacks refl) (ib-at lacks refl) (length_at lacks refl) (ib-reserved lacks refl)

  pub reads-back : record_of table ≡ record_given image
  unfolding record_of record_given record_at place_of part_of
  reads-back =
      let lacks = absent image 2 in
      let scsi : scsi_in (drop (offset_of table 0) table) ≡ scsi_in (drop 48 image) =
      ap (λ (n : ℕ). scsi_in (drop n table)) (scsi-at lacks refl) ∙ scsi-same (drop 48 table) (drop 48 image) (scsi-bytes lacks refl) in
      let srp : srp_in (drop (offset_of table 1) table) ≡ srp_in (drop 56 image) =
      ap (λ (n : ℕ). srp_in (drop n table)) (srp-at lacks refl) ∙ srp-same (drop 56 table) (drop 56 image) (srp-bytes lacks refl) in
      rw (start_back lacks refl, scsi, srp, ib-back lacks refl)

-- ---- the promise

table-length : (image : List ℕ) → length (table_of image) ≡ length_written image
unfolding sealed length_written
table-length image =
    let lacks = absent image 2 in
    ap length (table_is image) ∙ length-set (bare lacks image) 9 (checksum (bare lacks image) 9) ∙ bare-length lacks image

checksum-stands : (image : List ℕ) → ChecksumByte (table_of image) 9 (byte (table_of image) 9)
unfolding table_of length_written
checksum-stands image = sealed-stands _ (omega (arith, table-length image))

length-is : (image rest : List ℕ) → length_of (table_of image ++ rest) ≡ length_written image
unfolding length_written
length-is image rest = length_at image rest (absent image 2) refl

module _ (image before : List ℕ) (v : Verdict) (judged : v ≡ write_verdict image (length before)) where
  promise : (answer : Written) (after : List ℕ) → answer ≡ written_from (length_written image) v → after ≡ room_from (table_of image) before v
      → Write image before answer after
  unfolding written_of room_after write_verdict
  promise =
      writes check_of record_of (record_given image) (bytes_at image 10 6) (bytes_at image 16 8) (table_of image) before
      (length_written image) (table-length image) (checksum-stands image) (length-is image)
      (λ id table_id rest. record { passes = passes image rest id table_id; reads-back = reads-back image rest }) v judged

  pub promise-refused : (answer : Written) (r : Refusal) → v ≡ Refused r → answer ≡ written_from (length_written image) v → Write image before answer before
  promise-refused answer r e ea = promise answer before ea (room-kept (table_of image) before v r e)

  pub promise-accepted : (answer : Written) (after : List ℕ) → v ≡ Accepted → answer ≡ written_from (length_written image) v
      → after ≡ table_of image ++ drop (length (table_of image)) before → Write image before answer after
  promise-accepted answer after e ea er = promise answer after ea (er ∙ room-filled (table_of image) before v e)

  -- an accepted write has the room that it needs
  pub fits : v ≡ Accepted → length_written image ≤ length before
  unfolding write_verdict
  fits e = (write-accepted (bytes_at image 10 6) (bytes_at image 16 8) (length_written image) (length before) (sym judged ∙ e)).2
