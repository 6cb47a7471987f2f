-- A difference between two tables as a line of text (RULES.md, Compare), in the words of the record (docs/RECORD-FORMAT.md). A
-- line names what differs and gives its value in the left table and in the right one, or says which of them alone has it, with
-- tabs between. Assumes nothing: these are definitions.
use Rattle.std.specs.Prelude.{ℕ, ◌-◌, Bool, true, false, cond, ◌&&◌, List, [], ◌∷◌, ◌++◌, eqb}
use Prim.Native.Char.{code}
use Rattle.octets.specs.Counting.{first}
use Rattle.octets.specs.Octets.{part}
use Rattle.text.specs.Put.{ascii}
use Rattle.notation.specs.Number.{digits}
use Rattle.notation.specs.Escape.{string_text}
use Rattle.record_text.specs.Fields.{field_count, field_of, is_secret, name_of}
use Rattle.record_text.specs.Value.{field_text}
use Rattle.record_text.specs.declared.fields.FieldName.{FieldName}
use Rattle.ibft_compare.specs.declared.difference.Difference.{Difference}
use Rattle.ibft_compare.specs.declared.difference.Difference.TheVariants.{Nothing, OemId, OemTableId, ControlFlags, Presence, Field, Entry}
use Rattle.ibft_compare.specs.declared.difference.Stretch.{Stretch}
use Rattle.ibft_compare.specs.declared.difference.DifferenceReading.{DifferenceReading}

-- ---- words

-- between the two values
abbrev pub bar : List ℕ
bar = ascii "\t| "

-- which table alone has it
abbrev pub only_left : List ℕ
only_left = ascii "\tonly in LEFT\n"

abbrev pub only_right : List ℕ
only_right = ascii "\tonly in RIGHT\n"

-- a secret that both have
abbrev pub hidden_words : List ℕ
hidden_words = ascii "\tdiffers, hidden\n"

-- ---- names

-- the fields of the header and of Control: kinds 0 and 1 of group
abbrev pub oem_id : FieldName
oem_id = record { kind = 0; index = 0; field = 0 }

abbrev pub oem_table_id : FieldName
oem_table_id = record { kind = 0; index = 0; field = 1 }

abbrev pub control_flags : FieldName
control_flags = record { kind = 1; index = 0; field = 0 }

-- the number of the field of a kind that stands at `at` in its structure; how many it has where none does
unfoldable pub field_number : ℕ → ℕ → ℕ
field_number kind at = first (field_count kind) (λ (n : ℕ). eqb (field_of kind n).at at)

-- that field, of the structure of this Index
abbrev pub field_at : ℕ → ℕ → ℕ → FieldName
field_at id index at = record { kind = id; index = index; field = field_number id at }

-- the structure itself: a field past its last, which has no name of its own
abbrev pub structure : ℕ → ℕ → FieldName
structure id index = record { kind = id; index = index; field = field_count id }

-- the name as text
abbrev pub name_text : FieldName → List ℕ
name_text f = name_of f.kind f.index f.field

-- .. of a secret to hide, with a mark before it: a line that gives no value is a comment for who enters it
unfoldable pub hidden_name : FieldName → List ℕ
hidden_name f = ascii "# " ++ name_text f

-- ---- pieces of a line

-- the bytes of a stretch of a table
abbrev pub bytes_in : List ℕ → Stretch → List ℕ
bytes_in t s = part t s.start s.length

-- whether a table lacks it: what starts at 0 is not there
abbrev pub is_absent : Stretch → Bool
is_absent s = eqb s.start 0

-- the value of a field that has these bytes
abbrev pub value_of : FieldName → List ℕ → List ℕ
value_of f bytes = field_text f.kind f.field bytes

-- its name, a space, its value
unfoldable pub with_value : FieldName → List ℕ → List ℕ
with_value f bytes = name_text f ++ (code " " ∷ value_of f bytes)

-- .. and its value in the other table
unfoldable pub both_values : FieldName → List ℕ → List ℕ → List ℕ
both_values f left right = with_value f left ++ (bar ++ value_of f right)

-- which table alone has it: the right one, or the left
unfoldable pub only_in : Bool → List ℕ
only_in right = cond right only_right only_left

-- the bytes in which a string differs, and where the first of them stands in it
unfoldable pub shown_text : ℕ → List ℕ → List ℕ
shown_text n bytes = ascii "\tfrom byte " ++ (digits 10 n ++ (ascii ": " ++ (string_text bytes ++ (10 ∷ []))))

-- ---- lines

-- a field that both tables have
unfoldable pub field_line : FieldName → List ℕ → List ℕ → DifferenceReading → List ℕ
field_line f left right d = both_values f (bytes_in left d.left) (bytes_in right d.right) ++ (10 ∷ [])

-- a structure that one table has
unfoldable pub presence_line : ℕ → ℕ → DifferenceReading → List ℕ
presence_line id index d = name_text (structure id index) ++ only_in (is_absent d.left)

-- an entry that one table has: its name alone where it is a secret to hide
unfoldable pub held_line : Bool → FieldName → List ℕ → Bool → List ℕ
held_line secret f bytes right = cond secret (hidden_name f) (with_value f bytes) ++ only_in right

-- an entry that both have: of a secret to hide neither value nor bytes
unfoldable pub differs_line : Bool → FieldName → List ℕ → List ℕ → DifferenceReading → List ℕ
differs_line secret f left right d =
    cond secret (hidden_name f ++ hidden_words)
    (both_values f (bytes_in left d.left) (bytes_in right d.right)
    ++ shown_text (d.shown.start - d.left.start) (bytes_in left d.shown))

-- an entry
unfoldable pub entry_line : Bool → FieldName → List ℕ → List ℕ → DifferenceReading → List ℕ
entry_line secret f left right d =
    cond (is_absent d.right) (held_line secret f (bytes_in left d.left) false)
    (cond (is_absent d.left) (held_line secret f (bytes_in right d.right) true) (differs_line secret f left right d))

-- whether it is a secret, and secrets are to be hidden
abbrev pub is_hidden : Bool → FieldName → Bool
is_hidden hide f = hide && is_secret f.kind f.field

-- the line of the difference x, read as d
unfoldable pub line_of : Bool → List ℕ → List ℕ → DifferenceReading → Difference → List ℕ
line_of hide left right d Nothing = []
line_of hide left right d OemId = field_line oem_id left right d
line_of hide left right d OemTableId = field_line oem_table_id left right d
line_of hide left right d ControlFlags = field_line control_flags left right d
line_of hide left right d (Presence id index) = presence_line id index d
line_of hide left right d (Field id index at) = field_line (field_at id index at) left right d
line_of hide left right d (Entry id index at) =
    entry_line (is_hidden hide (field_at id index at)) (field_at id index at) left right d

-- .. of what the reading names
unfoldable pub difference_text : Bool → List ℕ → List ℕ → DifferenceReading → List ℕ
difference_text hide left right d = line_of hide left right d d.difference
