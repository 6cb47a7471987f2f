-- What a table holds, as text: docs/RECORD-FORMAT.md, What tell writes. Assumes nothing: these are definitions.
use Rattle.std.specs.Prelude.{ℕ, ◌+◌, ◌-◌, List, [], ◌∷◌, ◌++◌, Bool, cond, not, ◌&&◌, ◌||◌, get_or, eqb, ltb, Option, None, Some, option_map, Ok, Err}
use Prim.Native.Char.{code}
use Rattle.octets.specs.Counting.{gather}
use Rattle.octets.specs.Octets.{part, all_zero}
use Rattle.text.specs.Put.{ascii}
use Rattle.ibft_layout.specs.Layout.{kind_of, flags_at, first_entry}
use Rattle.ibft_table.specs.Record.{Record, record_of}
use Rattle.ibft_table.specs.Check.{check_of}
use Rattle.table_header.specs.Verdict.{Verdict}
use Rattle.record_text.specs.Fields.{first_structure, is_text, is_always, is_secret, field_count, plain_count, field_of, name_of}
use Rattle.record_text.specs.Value.{field_text}
use Rattle.record_text.specs.Enter.{group_count}
use Rattle.record_text.specs.declared.fields.FieldLayout.{FieldLayout}

-- ---- groups by number: the header, Control, then the structures by slot

-- the slot, the kind and the Index of group g
abbrev pub slot_in : ℕ → ℕ
slot_in g = g - first_structure

unfoldable pub kind_number : ℕ → ℕ
kind_number g = cond (ltb g first_structure) g (kind_of (slot_in g)).id

unfoldable pub index_held : Record → ℕ → ℕ
index_held r g = cond (ltb g first_structure) 0 (get_or r.indices (slot_in g) 0)

-- ---- the bytes of field n of group g in a record; `none` where its structure is absent or its string is missing

-- of a structure's flags and fields, which are its bytes from 5 on
abbrev pub within : FieldLayout → List ℕ → List ℕ
within field body = part body (field.at - flags_at) field.width

unfoldable pub structure_field : Record → ℕ → ℕ → ℕ → Option (List ℕ)
structure_field r k kind n =
    cond (is_text (field_of kind n).notation)
    (get_or r.entries (first_entry k + (n - plain_count kind)) None)
    (option_map (within (field_of kind n)) (get_or r.structures k None))

unfoldable pub record_field : Record → ℕ → ℕ → Option (List ℕ)
record_field r g n =
    cond (eqb g 0) (Some (cond (eqb n 1) r.oem_table_id r.oem_id))
    (cond (eqb g 1) (Some (r.flags ∷ [])) (structure_field r (slot_in g) (kind_number g) n))

-- ---- a line

-- a string is told where it is present, any other field where it is told always or is not zero
unfoldable pub is_told : ℕ → ℕ → List ℕ → Bool
is_told kind n bytes = is_text (field_of kind n).notation || is_always (field_of kind n).notation || not (all_zero bytes)

-- a field's name, a space, its value, a line feed
unfoldable pub line_with : ℕ → ℕ → ℕ → List ℕ → List ℕ
line_with kind index n bytes = name_of kind index n ++ (code " " ∷ (field_text kind n bytes ++ (10 ∷ [])))

-- in place of a secret's line, where secrets are hidden: a comment, which says that there is one
unfoldable pub hidden_line : ℕ → ℕ → ℕ → List ℕ
hidden_line kind index n = ascii "# " ++ (name_of kind index n ++ (ascii " is hidden" ++ (10 ∷ [])))

-- the line of a field with these bytes; nothing where it is not told
unfoldable pub line_of : Bool → ℕ → ℕ → ℕ → Option (List ℕ) → List ℕ
line_of hide kind index n None = []
line_of hide kind index n (Some bytes) =
    cond (hide && is_secret kind n) (hidden_line kind index n) (cond (is_told kind n bytes) (line_with kind index n bytes) [])

-- ---- the text: group by group, in each field by field

-- the line of field n of group g
abbrev pub field_line : Bool → Record → ℕ → ℕ → List ℕ
field_line hide r g n = line_of hide (kind_number g) (index_held r g) n (record_field r g n)

unfoldable pub group_text : Bool → Record → ℕ → List ℕ
group_text hide r g = gather (λ (n : ℕ). field_line hide r g n) 0 (field_count (kind_number g))

unfoldable pub record_text : Bool → Record → List ℕ
record_text hide r = gather (group_text hide r) 0 group_count

-- .. of a table; nothing where the check refuses it
unfoldable pub if_accepted : Verdict → List ℕ → List ℕ
if_accepted (Ok u) text = text
if_accepted (Err refusal) text = []

unfoldable pub table_text : Bool → List ℕ → List ℕ
table_text hide t = if_accepted (check_of t) (record_text hide (record_of t))
