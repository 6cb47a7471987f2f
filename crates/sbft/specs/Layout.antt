-- The layout of an SRP Boot Firmware Table (source document 002), as data. Its start has 48 bytes: the header; reserved 24 to
-- 35; the parts' offsets 36, 38 and 40; reserved 42 to 47. Assumes nothing: these are definitions.
--     SCSI: LUN 0 (8)      SRP: initiator port 0 (16), target port 16 (16)
--     IB: source GID 0 (16), destination GID 16 (16), service 32 (8), partition key 40 (2), reserved 42 to 47
use Rattle.std.specs.Prelude.{ℕ, ◌+◌, List, [], ◌∷◌, Bool, true, false, ◌&&◌, get_or, eqb}
use Rattle.octets.specs.Octets.{word16}
use Rattle.sbft.specs.declared.layout.Part.{Part}

-- a part: where its offset stands, how many bytes it has, whether it may be absent (offset 0), where a written table has it
abbrev pub scsi : Part
scsi = record { word = 36; size = 8; optional = false; place = 48 }

abbrev pub srp : Part
srp = record { word = 38; size = 32; optional = false; place = 56 }

abbrev pub ib : Part
ib = record { word = 40; size = 48; optional = true; place = 88 }

-- the parts in the order of their offsets: SCSI, SRP, IB
abbrev pub part_count : ℕ
part_count = 3

unfoldable pub part_of : ℕ → Part
part_of k = get_or (scsi ∷ srp ∷ ib ∷ []) k ib

-- no part starts below the end of the table's start; the IB part's last six bytes are reserved
abbrev pub start_end : ℕ
start_end = 48

abbrev pub ib_reserved : ℕ
ib_reserved = 42

-- ---- where the parts of a table stand

unfoldable pub offset_of : List ℕ → ℕ → ℕ
offset_of t k = word16 t (part_of k).word

unfoldable pub absent : List ℕ → ℕ → Bool
absent t k = (part_of k).optional && eqb (offset_of t k) 0

unfoldable pub end_of : List ℕ → ℕ → ℕ
end_of t k = offset_of t k + (part_of k).size
