-- The value of a field as text, and the bytes it has in a record: docs/RECORD-FORMAT.md, Values. Assumes nothing: these are
-- definitions.
use Rattle.std.specs.Prelude.{ℕ, List, [], ◌∷◌, Bool, true, cond, take, eqb, leb, ltb, Option, None, Some, option_map}
use Rattle.octets.specs.Octets.{byte, word16, word64, bytes_at, le16}
use Rattle.text.specs.Put.{ascii}
use Rattle.text.specs.Split.{index_of}
use Rattle.text.specs.Words.{word_at, word_count, word_number, read_word_set, word_set_text}
use Rattle.notation.specs.Number.{digits}
use Rattle.notation.specs.Address.{read_address, address_text}
use Rattle.notation.specs.Mac.{read_mac, mac_text}
use Rattle.notation.specs.Pci.{read_pci, pci_text}
use Rattle.notation.specs.Escape.{string_of, string_text}
use Rattle.notation.specs.Value.{filled, is_width, number_bytes}
use Rattle.record_text.specs.Fields.{group_of, field_of}
use Rattle.record_text.specs.declared.fields.Notation.{Notation}
use Rattle.record_text.specs.declared.fields.Notation.TheVariants.{Oem, Mode, Flags, Number, Port, Address, Mac, Pci, Chap, Text}

-- the words of the login mode and of the CHAP type
abbrev pub modes : List ℕ
modes = ascii "multi single"

abbrev pub chap_types : List ℕ
chap_types = ascii "none one-way mutual"

-- ---- from text to bytes; `none` where the value cannot be read

-- a word of the list as its number
unfoldable pub word_byte : List ℕ → List ℕ → Option (List ℕ)
word_byte list text = cond (ltb (word_number list text) (word_count list)) (Some (word_number list text ∷ [])) None

-- a set of words as its number
abbrev pub set_byte : Option ℕ → Option (List ℕ)
set_byte set = option_map (λ (v : ℕ). v ∷ []) set

-- the bytes of a value that is no string: `flags` are the names of the structure's flags
unfoldable pub value_bytes : List ℕ → Notation → ℕ → List ℕ → Option (List ℕ)
value_bytes flags Oem width text = filled width (string_of text)
value_bytes flags Mode width text = word_byte modes text
value_bytes flags Flags width text = set_byte (read_word_set flags text)
value_bytes flags Number width text = number_bytes width text
value_bytes flags Port width text = number_bytes width text
value_bytes flags Address width text = read_address text
value_bytes flags Mac width text = read_mac text
value_bytes flags Pci width text = option_map le16 (read_pci text)
value_bytes flags Chap width text = word_byte chap_types text
value_bytes flags Text width text = None

-- a width that the notation can have
unfoldable pub fits : Notation → ℕ → Bool
fits Oem width = leb width 16
fits Mode width = eqb width 1
fits Flags width = eqb width 1
fits Number width = is_width width
fits Port width = eqb width 2
fits Address width = eqb width 16
fits Mac width = eqb width 6
fits Pci width = eqb width 2
fits Chap width = eqb width 1
fits Text width = true

-- the bytes of field n of a kind with this text as its value
abbrev pub field_bytes : ℕ → ℕ → List ℕ → Option (List ℕ)
field_bytes kind n text = value_bytes (group_of kind).flags (field_of kind n).notation (field_of kind n).width text

-- ---- from bytes to text

-- an OEM field's bytes before the first zero, as a string
abbrev pub oem_text : List ℕ → List ℕ
oem_text bytes = string_text (take (index_of 0 bytes) bytes)

-- the text of a value
unfoldable pub value_text : List ℕ → Notation → List ℕ → List ℕ
value_text flags Oem bytes = oem_text bytes
value_text flags Mode bytes = word_at modes (byte bytes 0)
value_text flags Flags bytes = word_set_text flags (byte bytes 0)
value_text flags Number bytes = digits 10 (word64 bytes 0)
value_text flags Port bytes = digits 10 (word64 bytes 0)
value_text flags Address bytes = address_text (bytes_at bytes 0 16)
value_text flags Mac bytes = mac_text bytes
value_text flags Pci bytes = pci_text (word16 bytes 0)
value_text flags Chap bytes = word_at chap_types (byte bytes 0)
value_text flags Text bytes = string_text bytes

-- the text of field n of a kind with these bytes
abbrev pub field_text : ℕ → ℕ → List ℕ → List ℕ
field_text kind n bytes = value_text (group_of kind).flags (field_of kind n).notation bytes
