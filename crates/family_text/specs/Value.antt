-- The value of a field as text, and the bytes it has in a table: docs/RECORD-FORMAT.md, Values. Assumes nothing: these are
-- definitions.
use Rattle.std.specs.Prelude.{ℕ, ◌-◌, ◌^◌, List, Bool, ◌&&◌, ◌||◌, take, eqb, leb, Option, option_map}
use Rattle.octets.specs.Octets.{word16, bytes_at, le16}
use Rattle.text.specs.Split.{index_of}
use Rattle.notation.specs.Number.{number_up_to, digits}
use Rattle.notation.specs.Address.{read_address, address_text}
use Rattle.notation.specs.Pairs.{read_pairs, pairs_text}
use Rattle.notation.specs.Escape.{string_of, string_text}
use Rattle.notation.specs.Value.{filled}
use Rattle.family_text.specs.Fields.{field_of}
use Rattle.family_text.specs.declared.fields.Notation.{Notation}
use Rattle.family_text.specs.declared.fields.Notation.TheVariants.{Oem, Number, Pairs, Address}

-- ---- from text to bytes; `none` where the value cannot be read

-- a number as `width` bytes, one or two, the lower first, where it fits into them
unfoldable pub number_bytes : ℕ → List ℕ → Option (List ℕ)
number_bytes width text = option_map (λ (n : ℕ). take width (le16 n)) (number_up_to (256 ^ width - 1) text)

unfoldable pub value_bytes : Notation → ℕ → List ℕ → Option (List ℕ)
value_bytes Oem width text = filled width (string_of text)
value_bytes Number width text = number_bytes width text
value_bytes Pairs width text = read_pairs width text
value_bytes Address width text = read_address text

-- a width that the notation can have
unfoldable pub fits : Notation → ℕ → Bool
fits Oem width = leb width 16
fits Number width = eqb width 1 || eqb width 2
fits Pairs width = leb 1 width && leb width 16
fits Address width = eqb width 16

-- the bytes of a family's field n with this text as its value
abbrev pub field_bytes : ℕ → ℕ → List ℕ → Option (List ℕ)
field_bytes family n text = value_bytes (field_of family n).notation (field_of family n).width text

-- ---- from bytes to text

-- an OEM field's bytes before the first zero, as a string
abbrev pub oem_text : List ℕ → List ℕ
oem_text bytes = string_text (take (index_of 0 bytes) bytes)

unfoldable pub value_text : Notation → ℕ → List ℕ → List ℕ
value_text Oem width bytes = oem_text bytes
value_text Number width bytes = digits 10 (word16 bytes 0)
value_text Pairs width bytes = pairs_text width bytes
value_text Address width bytes = address_text (bytes_at bytes 0 16)
