-- Whole tables compared, by computation: what the three calls answer, where each table has what differs, refusals and their
-- side.
use Rattle.std.specs.Prelude.{◌≡◌, refl, List, [], ◌∷◌, ℕ}
use Rattle.octets.specs.Octets.{write}
use Rattle.table_header.specs.Verdict.{refusal, accepted}
use Rattle.table_header.specs.declared.verdict.Refusal.{Refusal}
use Rattle.ibft_table.specs.CheckCases.{blank, place, words, sealed}
use Rattle.ibft_compare.specs.Differences.{stretch, nothing}
use Rattle.ibft_compare.specs.Compare.{compared_of, difference_of, view_of}
use Rattle.ibft_compare.specs.Computing.{computing}
use Rattle.ibft_compare.specs.declared.difference.Difference.{Difference}
use Rattle.ibft_compare.specs.declared.difference.Difference.TheVariants.{Nothing, Presence, Field, Entry}
use Rattle.ibft_compare.specs.declared.difference.Stretch.{Stretch}
use Rattle.ibft_compare.specs.declared.difference.Compared.{Compared}
use Rattle.ibft_compare.specs.declared.difference.DifferenceReading.{DifferenceReading}

-- Target 0 alone at 72, with these flags, and a CHAP name of three bytes at 126
table : ℕ → List ℕ → List ℕ
table flags name = sealed (write (words 110 3 126 (place 2 72 flags (blank 130))) 126 name)

-- flags 1 and the name `abc`; flags 3 and the name `abd`; no structure; the first with a byte changed and the sum left as it
-- was
one : List ℕ
one = table 1 (97 ∷ 98 ∷ 99 ∷ [])

other : List ℕ
other = table 3 (97 ∷ 98 ∷ 100 ∷ [])

bare : List ℕ
bare = sealed (blank 66)

damaged : List ℕ
damaged = write one 20 (1 ∷ [])

counted : Refusal → ℕ → ℕ → Compared
counted refusal side count = record { refusal = refusal; side = side; count = count }

read : Difference → Stretch → Stretch → Stretch → DifferenceReading
read difference left right shown =
    record { refusal = accepted; side = 0; difference = difference; left = left; right = right; shown = shown }

-- how many: none against itself; the flags and the name; a target
counts : compared_of one one ∷ compared_of one other ∷ compared_of one bare ∷ compared_of bare one ∷ []
    ≡ counted accepted 0 0 ∷ counted accepted 0 2 ∷ counted accepted 0 1 ∷ counted accepted 0 1 ∷ []
unfolding computing blank place words sealed table one other bare counted
counts = refl

-- each by its number: the flags at 77, the name at 126 with its last byte shown, then nothing
readings : difference_of one other 0 ∷ difference_of one other 1 ∷ difference_of one other 2 ∷ []
    ≡ read (Field 4 0 5) (stretch 77 1) (stretch 77 1) nothing ∷ read (Entry 4 0 38) (stretch 126 3) (stretch 126 3) (stretch 128 1)
    ∷ read Nothing nothing nothing nothing ∷ []
unfolding computing blank place words sealed table one other read
readings = refl

-- a structure that one table has: where it starts and how long it is
presences : difference_of one bare 0 ∷ difference_of bare one 0 ∷ []
    ≡ read (Presence 4 0) (stretch 72 54) nothing nothing ∷ read (Presence 4 0) nothing (stretch 72 54) nothing ∷ []
unfolding computing blank place words sealed table one bare read
presences = refl

-- the view: of the left table
views : view_of one other 1 ∷ view_of other one 1 ∷ view_of one other 0 ∷ view_of one other 2 ∷ [] ≡ (99 ∷ []) ∷ (100 ∷ []) ∷ [] ∷ [] ∷ []
unfolding computing blank place words sealed table one other
views = refl

-- refused: on the left, on the right; on both sides the left one's. Nothing is listed and nothing shown.
wrong_sum : Refusal
wrong_sum = record { number = 6; place = 9; checksum = 248 }

refusals : compared_of damaged one ∷ compared_of one damaged ∷ compared_of damaged [] ∷ compared_of [] damaged ∷ []
    ≡ counted wrong_sum 0 0 ∷ counted wrong_sum 1 0 ∷ counted wrong_sum 0 0 ∷ counted (refusal 3 0) 0 0 ∷ []
unfolding computing blank place words sealed table one damaged counted wrong_sum
refusals = refl

refused-reading : (difference_of other damaged 0
    ≡ record { refusal = wrong_sum; side = 1; difference = Nothing; left = nothing; right = nothing; shown = nothing })
    × (view_of other damaged 0 ≡ [])
unfolding computing blank place words sealed table one other damaged wrong_sum
refused-reading = (refl, refl)
