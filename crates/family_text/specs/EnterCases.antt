-- Worked texts and what they are entered as, by computation: the example of docs/RECORD-FORMAT.md for each family, and a line
-- for each reason.
use Rattle.std.specs.Prelude.{◌≡◌, refl, List, [], ◌∷◌, ◌++◌, map, ℕ}
use Prim.Native.String.{String}
use Rattle.octets.specs.Octets.{zeros}
use Rattle.text.specs.Put.{ascii}
use Rattle.text.specs.Split.{join}
use Rattle.family_text.specs.Fields.{abft, sbft}
use Rattle.family_text.specs.Enter.{Answer, answer_of, entered_from}
use Rattle.family_text.specs.Computing.{computing}

-- lines with a line feed between each two
text : List String → List ℕ
text lines = join 10 (map (λ (s : String). ascii s) lines)

answer : ℕ → ℕ → ℕ → Answer
answer reason line field = record { reason = reason; line = line; field = field }

-- ---- an aBFT

bench : List ℕ
bench = text ("oem.id METTA" ∷ "abft.shelf 7" ∷ "# the AoE shelf" ∷ "abft.slot 0x3" ∷ "abft.mac 52:54:00:12:34:56" ∷ "" ∷ [])

bench-read : answer_of (entered_from abft bench []) ≡ answer 0 0 0
unfolding computing text answer bench
bench-read = refl

-- the image, of which what is past 136 bytes is left as it was
bench-image : (entered_from abft bench (255 ∷ (zeros 135 ++ (9 ∷ [])))).draft.image
    ≡ zeros 10 ++ (77 ∷ 69 ∷ 84 ∷ 84 ∷ 65 ∷ zeros 21 ++ (7 ∷ 0 ∷ 3 ∷ 0 ∷ 82 ∷ 84 ∷ 0 ∷ 18 ∷ 52 ∷ 86 ∷ (zeros 90 ++ (9 ∷ []))))
unfolding computing text bench
bench-image = refl

-- ---- an sBFT

-- without an IB part the word at 40 is 0
plain : List ℕ
plain = text ("sbft.lun 00:01:00:00:00:00:00:02" ∷ "oem.table B" ∷ [])

plain-image : (entered_from sbft plain (zeros 136)).draft.image ≡ zeros 16 ++ (66 ∷ zeros 31 ++ (0 ∷ 1 ∷ 0 ∷ 0 ∷ 0 ∷ 0 ∷ 0 ∷ 2 ∷ zeros 80))
unfolding computing text plain
plain-image = refl

-- one of its fields makes it present, at 88
with-key : List ℕ
with-key = text ("sbft.target-port 00:00:00:00:00:00:00:00:00:00:00:00:00:00:00:05" ∷ "sbft.partition-key 65535" ∷ "sbft.destination-gid fe80::1" ∷ [])

key-image : (entered_from sbft with-key (zeros 136)).draft.image
    ≡ zeros 40 ++ (88 ∷ zeros 46 ++ (5 ∷ zeros 16 ++ (254 ∷ 128 ∷ zeros 13 ++ (1 ∷ zeros 8 ++ (255 ∷ 255 ∷ zeros 6)))))
unfolding computing text with-key
key-image = refl

-- ---- the first line that cannot be read: why, which, and the field it names

refused : map (λ (lines : List String). answer_of (entered_from abft (text lines) []))
    (("abft.shelf 1" ∷ "sbft.lun 1" ∷ [])
    ∷ ("abft.shelf 1" ∷ "" ∷ "abft.shelf 1" ∷ [])
    ∷ ("abft.slot 256" ∷ "abft.shelf 1" ∷ [])
    ∷ ("abft.mac 52:54:00:12:34" ∷ [])
    ∷ ("oem.id SEVENTY" ∷ [])
    ∷ ("oem.table a\\b" ∷ [])
    ∷ [])
    ≡ answer 1 2 0 ∷ answer 2 3 2 ∷ answer 3 1 3 ∷ answer 3 1 4 ∷ answer 4 1 0 ∷ answer 3 1 1 ∷ []
unfolding computing text answer
refused = refl
