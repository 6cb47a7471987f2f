-- Worked s_b_f_ts, by computation: what is written, what the check says of it and of damaged ones, what is read.
use Rattle.std.specs.Prelude.{◌≡◌, refl, List, [], ◌∷◌, ◌++◌, map, ℕ, zero, suc, length}
use Rattle.octets.specs.Octets.{byte, le16, zeros, write}
use Rattle.table_header.specs.Verdict.{refusal, accepted, Verdict, Accepted, Refused}
use Rattle.table_header.specs.Header.{sealed}
use Rattle.table_header.specs.declared.write.Written.{Written}
use Rattle.sbft.specs.Layout.{scsi, srp, ib}
use Rattle.sbft.specs.Check.{check_of}
use Rattle.sbft.specs.Readings.{record_of, scsi_in, srp_in, ib_in, scsi_of, ib_of, part_view_of}
use Rattle.sbft.specs.Write.{record_given, table_of, written_of, room_after}
use Rattle.sbft.specs.Computing.{computing}
use Rattle.sbft.specs.declared.fields.Srp.{Srp}
use Rattle.sbft.specs.declared.fields.Ib.{Ib}

-- the numbers from a on, n of them
from : ℕ → ℕ → List ℕ
from a zero = []
from a (suc n) = a ∷ from (suc a) n

-- an image in which each byte is its own place; its IB offset is not 0
image : List ℕ
image = from 0 136

-- the same without an IB part
plain : List ℕ
plain = write image ib.word (le16 0)

table : List ℕ
table = table_of image

-- a word or a byte changed, the sum mended
moved : ℕ → ℕ → List ℕ
moved word offset = sealed (write table word (le16 offset))

changed : ℕ → ℕ → List ℕ
changed at b = sealed (write table at (b ∷ []))

refuses : ℕ → ℕ → Verdict
refuses number place = Refused (refusal number place)

-- both are accepted, and have the Length and the offsets that they should
written : map check_of (table ∷ table_of plain ∷ []) ≡ Accepted ∷ Accepted ∷ []
unfolding computing image plain table from
written = refl

offsets : (map (byte table) (4 ∷ 36 ∷ 38 ∷ 40 ∷ []) ≡ 136 ∷ 48 ∷ 56 ∷ 88 ∷ []) × (map (byte (table_of plain)) (4 ∷ 36 ∷ 38 ∷ 40 ∷ []) ≡ 88 ∷ 48 ∷ 56 ∷ 0 ∷ [])
unfolding computing image plain table from
offsets = (refl, refl)

lengths : length table ∷ length (table_of plain) ∷ [] ≡ 136 ∷ 88 ∷ []
unfolding computing image plain table from
lengths = refl

-- reserved bytes of the start; an offset of 0, 47, one past the end; an overlap of SRP with SCSI, of IB with SRP; the IB part's
-- reserved bytes; all parts' 31 before any 32, 32 before the IB part's 30, 30 of the start before 31; an IB offset of 0 is no
-- fault, whatever stands there
judged : map check_of
    (changed 24 1 ∷ changed 47 1 ∷ moved 36 0 ∷ moved 38 0 ∷ moved 38 47 ∷ moved 38 105 ∷ moved 40 89 ∷ moved 38 55
    ∷ moved 40 87 ∷ changed 130 1 ∷ changed 135 1
    ∷ sealed (write (moved 38 50) 40 (le16 89))
    ∷ sealed (write (moved 40 87) 134 (1 ∷ []))
    ∷ sealed (write (moved 36 0) 47 (1 ∷ []))
    ∷ sealed (write (moved 40 0) 134 (1 ∷ []))
    ∷ [])
    ≡ refuses 30 24 ∷ refuses 30 47 ∷ refuses 31 36 ∷ refuses 31 38 ∷ refuses 31 38 ∷ refuses 31 38 ∷ refuses 31 40 ∷ refuses 32 38 ∷ refuses 32 40
    ∷ refuses 30 130 ∷ refuses 30 135 ∷ refuses 31 40 ∷ refuses 32 40 ∷ refuses 30 47 ∷ Accepted ∷ []
unfolding computing image table moved changed refuses from
judged = refl

-- a wrong sum: 40 stands at 9, and with 48 less in the others 88 would be right; the check's refusal comes through a reading
wrong-sum : (check_of (write table 48 (0 ∷ [])) ≡ Refused (record { number = 6; place = 9; checksum = 88 }))
    × ((scsi_of (write table 48 (0 ∷ []))).refusal ≡ record { number = 6; place = 9; checksum = 88 })
unfolding computing image table from
wrong-sum = (refl, refl)

-- the record of an image is that of the table that is written from it
reads-back : (record_of table ≡ record_given image) × (record_of (table_of plain) ≡ record_given plain)
unfolding computing image plain table from
reads-back = (refl, refl)

-- an absent IB part: 22; but the check first
absent : (ib_of (table_of plain)).refusal ∷ (scsi_of (table_of plain)).refusal ∷ (ib_of (changed 24 1)).refusal ∷ []
    ≡ refusal 22 0 ∷ accepted ∷ refusal 30 24 ∷ []
unfolding computing image plain table changed from
absent = refl

-- the readings have each byte of a part up to the reserved ones exactly once
laid-srp : Srp → List ℕ
laid-srp r = r.initiator_port ++ r.target_port

laid-ib : Ib → List ℕ
laid-ib r = r.source_gid ++ (r.destination_gid ++ (r.service ++ le16 r.partition_key))

whole : ((scsi_in (from 0 8)).lun ≡ from 0 scsi.size) × (laid-srp (srp_in (from 0 32)) ≡ from 0 srp.size) × (laid-ib (ib_in (from 0 48)) ≡ from 0 42)
unfolding computing laid-srp laid-ib from
whole = (refl, refl, refl)

-- views: each part's own bytes; an absent part, a refused table and a number that no part has show none
views : (map (part_view_of table) (0 ∷ 1 ∷ 2 ∷ 3 ∷ []) ≡ from 48 8 ∷ from 56 32 ∷ (from 88 42 ++ zeros 6) ∷ [] ∷ [])
    × (part_view_of (table_of plain) 2 ∷ part_view_of (changed 24 1) 0 ∷ [] ≡ [] ∷ [] ∷ [])
unfolding computing image plain table changed from
views = (refl, refl)

-- in a room of 135 bytes: 21, untouched; without an IB part 88 are enough, and what is past them is kept
answer : ℕ → ℕ → ℕ → Written
answer number place length = record { refusal = refusal number place; length = length }

rooms : (written_of image 135 ≡ answer 21 0 0)
    × (room_after image (zeros 135) ≡ zeros 135)
    × (written_of plain 89 ≡ answer 0 0 88)
    × (room_after plain (zeros 88 ++ (5 ∷ [])) ≡ table_of plain ++ (5 ∷ []))
unfolding computing image plain answer from
rooms = (refl, refl, refl, refl)
