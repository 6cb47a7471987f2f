-- The bytes that a field has in a table or a record, from the text of its value: docs/RECORD-FORMAT.md, Values. Assumes nothing:
-- these are definitions.
use Rattle.std.specs.Prelude.{ℕ, ◌-◌, ◌^◌, List, ◌++◌, Bool, cond, ◌||◌, length, take, eqb, leb, Option, None, Some, option_map}
use Rattle.octets.specs.Octets.{le64, zeros}
use Rattle.notation.specs.Number.{number_up_to}
use Rattle.notation.specs.Escape.{string_of}
use Rattle.notation.specs.Pairs.{read_pairs}

-- a string of at most `width` bytes, filled with zeros
abbrev pub filled : ℕ → Option (List ℕ) → Option (List ℕ)
filled width None = None
filled width (Some s) = cond (leb (length s) width) (Some (s ++ zeros (width - length s))) None

-- a width that a number can have
unfoldable pub is_width : ℕ → Bool
is_width width = eqb width 1 || eqb width 2 || eqb width 8

-- a number as `width` bytes, the lowest first, where it fits into them
unfoldable pub number_bytes : ℕ → List ℕ → Option (List ℕ)
number_bytes width text = option_map (λ (n : ℕ). take width (le64 n)) (number_up_to (256 ^ width - 1) text)

-- bytes as the code answers them: zeros behind them up to 16
abbrev pub sixteen : List ℕ → List ℕ
sixteen bytes = bytes ++ zeros (16 - length bytes)

unfoldable pub value_read : Option (List ℕ) → Option (List ℕ)
value_read o = option_map sixteen o

-- ---- what the calls answer for every width: none where no value has it

unfoldable pub number_value : ℕ → List ℕ → Option (List ℕ)
number_value width text = cond (is_width width) (value_read (number_bytes width text)) None

unfoldable pub string_value : ℕ → List ℕ → Option (List ℕ)
string_value width text = cond (leb width 16) (value_read (filled width (string_of text))) None

unfoldable pub pairs_value : ℕ → List ℕ → Option (List ℕ)
pairs_value width text = cond (leb width 16) (value_read (read_pairs width text)) None
