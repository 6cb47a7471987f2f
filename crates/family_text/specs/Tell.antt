-- What an aBFT or an sBFT holds, as text: docs/RECORD-FORMAT.md, What tell writes. Assumes nothing: these are definitions.
use Rattle.std.specs.Prelude.{ℕ, zero, suc, ◌+◌, List, [], ◌∷◌, ◌++◌, Bool, true, cond, not, eqb}
use Prim.Native.Char.{code}
use Rattle.octets.specs.Counting.{gather}
use Rattle.octets.specs.Octets.{part, all_zero}
use Rattle.table_header.specs.Verdict.{shown, Verdict}
use Rattle.abft.specs.Abft.{check_of as abft_check}
use Rattle.sbft.specs.Check.{check_of as sbft_check}
use Rattle.sbft.specs.Layout.{offset_of, absent}
use Rattle.family_text.specs.Fields.{sbft, field_count, field_of, name_of}
use Rattle.family_text.specs.Value.{value_text}
use Rattle.family_text.specs.Enter.{is_oem}
use Rattle.family_text.specs.declared.fields.FieldLayout.{FieldLayout}

-- ---- where the fields of a table stand

-- where a part starts, as the table says, and whether it is there
unfoldable pub start_in : List ℕ → ℕ → ℕ
start_in t zero = 0
start_in t (suc k) = offset_of t k

unfoldable pub is_there : List ℕ → ℕ → Bool
is_there t zero = true
is_there t (suc k) = not (absent t k)

-- the bytes of a field
unfoldable pub bytes_in : List ℕ → FieldLayout → List ℕ
bytes_in t f = part t (start_in t f.part + f.at) f.width

-- ---- a line

-- an OEM field is told where it is not all zeros, any other where its part is there
unfoldable pub is_told : List ℕ → FieldLayout → Bool
is_told t f = cond (is_oem f.notation) (not (all_zero (bytes_in t f))) (is_there t f.part)

-- a field's name, a space, its value, a line feed
unfoldable pub line_with : ℕ → ℕ → FieldLayout → List ℕ → List ℕ
line_with family n f bytes = name_of family n ++ (code " " ∷ (value_text f.notation f.width bytes ++ (10 ∷ [])))

-- the line of field n; nothing where it is not told
unfoldable pub line_of : ℕ → List ℕ → ℕ → List ℕ
line_of family t n = cond (is_told t (field_of family n)) (line_with family n (field_of family n) (bytes_in t (field_of family n))) []

-- ---- the text: field by field

unfoldable pub lines_text : ℕ → List ℕ → List ℕ
lines_text family t = gather (line_of family t) 0 (field_count family)

-- the family's check: the sBFT's; of every other number the aBFT's
unfoldable pub verdict_of : ℕ → List ℕ → Verdict
verdict_of family t = cond (eqb family sbft) (sbft_check t) (abft_check t)

-- the text of a table; nothing where the check refuses it
unfoldable pub table_text : ℕ → List ℕ → List ℕ
table_text family t = shown (verdict_of family t) (lines_text family t)
