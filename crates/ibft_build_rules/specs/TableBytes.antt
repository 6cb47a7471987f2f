-- The table of a record, byte by byte; gaps and reserved bytes are zero, the checksum comes last.
-- Assumes nothing: these are definitions.
use Rattle.std.specs.Prelude.{ℕ, ◌+◌, ◌*◌, ◌-◌, List, [], ◌∷◌, ◌++◌, cond, length, set, Option, None, Some}
use Rattle.octets.specs.Counting.{gather}
use Rattle.octets.specs.Octets.{le16, le32, zeros, checksum}
use Rattle.string_heap.specs.Places.{len, heap_to}
use Rattle.string_heap.specs.Starts.{align8}
use Rattle.ibft_layout.specs.Layout.{Kind, control, kind_of, first_entry, slot_count, entry_count, named_count, most_words, built_slot, may_share}
use Rattle.ibft_layout.specs.Shapes.{shape_of, shape_start}
use Rattle.ibft_table.specs.Record.{Content}
use Rattle.ibft_build_rules.specs.Plan.{is_present, extras_built, end_built, start_built, length_built, offset_built}

-- signature `i_b_f_t`, Length, Revision 1, Checksum (not yet set), OEMID, OEM Table ID, reserved
unfoldable pub header_bytes : Content → List ℕ
header_bytes c = 105 ∷ 66 ∷ 70 ∷ 84 ∷ (le32 (length_built c) ++ (1 ∷ 0 ∷ (c.oem_id ++ (c.oem_table_id ++ zeros 24))))

-- the start of a structure up to its flags: ID, Version, Length, Index
abbrev pub start_bytes : Kind → ℕ → List ℕ
start_bytes kind index = shape_start (shape_of kind) index

-- that of Control with so many extra words
abbrev pub control_start : ℕ → List ℕ
control_start extras = control.id ∷ control.version ∷ (le16 (control.length + 2 * extras) ++ (0 ∷ []))

-- the word of an extra slot that is in use
unfoldable pub extra_word : Content → ℕ → List ℕ
extra_word c k = cond (is_present (c.structure k)) (le16 (start_built c k)) []

-- Control: its flags, the Extensions word 0, the starts of the named slots, then those of the extras, in slot order
unfoldable pub control_bytes : Content → List ℕ
control_bytes c =
    control_start (extras_built c)
    ++ (c.flags
    ∷ (le16 0 ++ (gather (λ (k : ℕ). le16 (start_built c k)) 0 named_count ++ gather (extra_word c) named_count most_words)))

-- entry n's length and offset
unfoldable pub words_built : Content → ℕ → List ℕ
words_built c n = le16 (len (c.entry n)) ++ le16 (offset_built c n)

-- slot k's structure with these flags and fields
unfoldable pub structure_bytes : Content → ℕ → List ℕ → List ℕ
structure_bytes c k body =
    start_bytes (kind_of k) (c.index k) ++ (body ++ gather (words_built c) (first_entry k) (length (kind_of k).string_fields))

-- the gap and the structure that are j-th in the build's order, nothing where it is absent
unfoldable pub stretch_as : Content → ℕ → Option (List ℕ) → List ℕ
stretch_as c j None = []
stretch_as c j (Some body) = zeros (align8 (end_built c j) - end_built c j) ++ structure_bytes c (built_slot j) body

unfoldable pub stretch : Content → ℕ → List ℕ
stretch c j = stretch_as c j (c.structure (built_slot j))

-- the table before its checksum is set
unfoldable pub bare_table : Content → List ℕ
bare_table c =
    header_bytes c ++ (control_bytes c ++ (gather (stretch c) 0 slot_count ++ heap_to entry_count may_share c.entry entry_count))

unfoldable pub table_of : Content → List ℕ
table_of c = set (bare_table c) 9 (checksum (bare_table c) 9)
