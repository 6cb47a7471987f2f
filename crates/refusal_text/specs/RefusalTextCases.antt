-- Worked lines, by computation: the checksum byte stands last with 6, also where it is 0, and with no other number; the longest
-- line; the side behind all of them.
use Rattle.std.specs.Prelude.{◌≡◌, refl, List, [], ◌∷◌, ◌++◌, map, ℕ}
use Prim.Native.String.{String}
use Rattle.octets.specs.Counting.{tabulate}
use Rattle.text.specs.Put.{ascii}
use Rattle.notation.specs.Number.{digit_byte, digits_within, digits}
use Rattle.table_header.specs.Verdict.{refusal}
use Rattle.table_header.specs.declared.verdict.Refusal.{Refusal}
use Rattle.refusal_text.specs.RefusalText.{checksum_text, refusal_words, refusal_text, side_refusal_text}

-- a refusal of the sum, with the byte that would be right
wrong_sum : ℕ → Refusal
wrong_sum byte = record { number = 6; place = 9; checksum = byte }

line : String → List ℕ
line s = ascii s ++ (10 ∷ [])

lines : map refusal_text
    (wrong_sum 211 ∷ wrong_sum 0 ∷ refusal 7 8 ∷ refusal 21 0 ∷ refusal 30 65582 ∷ record { number = 7; place = 8; checksum = 211 }
    ∷ record { number = 6; place = 4294967295; checksum = 255 } ∷ [])
    ≡ map line
    ("refused 6 9 211" ∷ "refused 6 9 0" ∷ "refused 7 8" ∷ "refused 21 0" ∷ "refused 30 65582" ∷ "refused 7 8" ∷ "refused 6 4294967295 255" ∷ [])
unfolding tabulate digit_byte digits_within digits checksum_text refusal_words refusal_text wrong_sum line
lines = refl

-- a refusal of the left table, 0, and of the right one, 1
side-lines : side_refusal_text (wrong_sum 65) 1 ∷ side_refusal_text (wrong_sum 0) 0 ∷ side_refusal_text (refusal 7 8) 0
    ∷ side_refusal_text (refusal 30 65582) 1
    ∷ side_refusal_text (record { number = 6; place = 4294967295; checksum = 255 }) 255 ∷ []
    ≡ map line
    ("refused 6 9 65 1" ∷ "refused 6 9 0 0" ∷ "refused 7 8 0" ∷ "refused 30 65582 1" ∷ "refused 6 4294967295 255 255" ∷ [])
unfolding tabulate digit_byte digits_within digits checksum_text refusal_words side_refusal_text wrong_sum line
side-lines = refl
