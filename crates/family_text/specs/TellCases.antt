-- Worked tables and their texts, by computation.
use Rattle.std.specs.Prelude.{◌≡◌, refl, List, [], ◌∷◌, map, ℕ}
use Prim.Native.String.{String}
use Rattle.octets.specs.Octets.{zeros, write}
use Rattle.text.specs.Put.{ascii}
use Rattle.text.specs.Split.{join}
use Rattle.abft.specs.Abft.{table_of as abft_table}
use Rattle.sbft.specs.Write.{table_of as sbft_table}
use Rattle.family_text.specs.Fields.{abft, sbft}
use Rattle.family_text.specs.Tell.{table_text}
use Rattle.family_text.specs.Computing.{computing}

-- lines with a line feed behind each
text : List String → List ℕ
text lines = join 10 (map (λ (s : String). ascii s) lines)

-- zeros are told too, but for the OEM fields
empty-abft : table_text abft (abft_table (zeros 46)) ≡ text ("abft.shelf 0" ∷ "abft.slot 0" ∷ "abft.mac 00:00:00:00:00:00" ∷ "" ∷ [])
unfolding computing text
empty-abft = refl

image : List ℕ
image = write (write (zeros 136) 10 (77 ∷ [])) 36 (1 ∷ 2 ∷ 3 ∷ 0 ∷ 255 ∷ [])

some-abft : table_text abft (abft_table image)
    ≡ text ("oem.id M" ∷ "abft.shelf 513" ∷ "abft.slot 3" ∷ "abft.mac ff:00:00:00:00:00" ∷ "" ∷ [])
unfolding computing text image
some-abft = refl

-- the IB part is told only where it is present
plain-sbft : table_text sbft (sbft_table (write (zeros 136) 55 (7 ∷ [])))
    ≡ text
    ("sbft.lun 00:00:00:00:00:00:00:07"
    ∷ "sbft.initiator-port 00:00:00:00:00:00:00:00:00:00:00:00:00:00:00:00"
    ∷ "sbft.target-port 00:00:00:00:00:00:00:00:00:00:00:00:00:00:00:00"
    ∷ ""
    ∷ [])
unfolding computing text
plain-sbft = refl

ib-sbft : table_text sbft (sbft_table (write (zeros 136) 40 (1 ∷ [])))
    ≡ text
    ("sbft.lun 00:00:00:00:00:00:00:00"
    ∷ "sbft.initiator-port 00:00:00:00:00:00:00:00:00:00:00:00:00:00:00:00"
    ∷ "sbft.target-port 00:00:00:00:00:00:00:00:00:00:00:00:00:00:00:00"
    ∷ "sbft.source-gid ::"
    ∷ "sbft.destination-gid ::"
    ∷ "sbft.service 00:00:00:00:00:00:00:00"
    ∷ "sbft.partition-key 0"
    ∷ ""
    ∷ [])
unfolding computing text
ib-sbft = refl

-- of a table that the check refuses, and of one of the other family, nothing
refused : table_text abft (zeros 46) ≡ []
unfolding computing
refused = refl

other : table_text sbft (abft_table (zeros 46)) ≡ []
unfolding computing
other = refl
