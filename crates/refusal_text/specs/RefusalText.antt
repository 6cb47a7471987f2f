-- A refusal as a line of text (RULES.md, Show and Compare). Assumes nothing: these are definitions.
use Rattle.std.specs.Prelude.{ℕ, cond, List, [], ◌∷◌, ◌++◌, eqb}
use Prim.Native.Char.{code}
use Rattle.text.specs.Put.{ascii}
use Rattle.notation.specs.Number.{digits}
use Rattle.table_header.specs.declared.verdict.Refusal.{Refusal}

-- a space and a number in decimal digits
abbrev pub next_number : ℕ → List ℕ
next_number n = code " " ∷ digits 10 n

-- the checksum byte, be it 0, with 6; with any other number it is not told
unfoldable pub checksum_text : Refusal → List ℕ
checksum_text r = cond (eqb r.number 6) (next_number r.checksum) []

-- the word, the number, the place, the checksum byte
unfoldable pub refusal_words : Refusal → List ℕ
refusal_words r = ascii "refused" ++ (next_number r.number ++ (next_number r.place ++ checksum_text r))

-- the line: these, a line feed
unfoldable pub refusal_text : Refusal → List ℕ
refusal_text r = refusal_words r ++ (10 ∷ [])

-- .. of a refusal of one of two tables: which of them stands last
unfoldable pub side_refusal_text : Refusal → ℕ → List ℕ
side_refusal_text r side = refusal_words r ++ (next_number side ++ (10 ∷ []))
