-- What entering the text of a record does to a draft, field by field: the meeting point of the laws of lines and of those of
-- the record range.
-- Assumes nothing: these are definitions.
use Rattle.std.specs.Prelude.{Option, None, Some}
use mathlib.Core.Path.{◌≡◌}
use Prim.Native.Nat.{ℕ, zero, suc, ◌+◌, ◌≤◌, ◌<◌}
use mathlib.Core.List.{List}
use mathlib.Core.Bool.{true, cond}
use lib.ListN.{get_or}
use Rattle.octets.specs.Counting.{count}
use Rattle.ibft_layout.specs.Layout.{nic, target, extra_most, extra_nics, extra_targets}
use Rattle.ibft_table.specs.Record.{Record}
use Rattle.ibft_build_rules.specs.Plan.{is_present}
use Rattle.record_text.specs.Fields.{first_structure, is_text, field_count, field_of}
use Rattle.record_text.specs.Enter.{Draft, group_count, extras_of, has_slot, slot_of, with_value, with_string}
use Rattle.record_text.specs.Tell.{slot_in, kind_number, index_held, record_field, is_told}
use Rattle.record_text.specs.declared.fields.FieldName.{FieldName}

-- the name of field n of group g
abbrev pub name_in : Record → ℕ → ℕ → FieldName
name_in r g n = record { kind = kind_number g; index = index_held r g; field = n }

-- the draft with the bytes that field f has in the record, where its line is told
unfoldable pub valued : Draft → FieldName → Option (List ℕ) → Draft
valued d f None = d
valued d f (Some bytes) =
    cond (is_told f.kind f.field bytes)
    (cond (is_text (field_of f.kind f.field).notation) (with_string d f bytes) (with_value d f bytes))
    d

-- the draft with the first n fields of group g, and with the first g groups
unfoldable pub fields_entered : Record → ℕ → ℕ → Draft → Draft
fields_entered r g zero d = d
fields_entered r g (suc n) d = valued (fields_entered r g n d) (name_in r g n) (record_field r g n)

unfoldable pub groups_entered : Record → ℕ → Draft → Draft
groups_entered r zero d = d
groups_entered r (suc g) d = fields_entered r g (field_count (kind_number g)) (groups_entered r g d)

-- the structure of group g is present
abbrev pub Held : Record → ℕ → Type 0
Held r g = (is_present (get_or r.structures (slot_in g) None) ≡ true)

-- the marks seat every structure of the record in its slot, and count its extras
pub record Seats (marks : List ℕ) (r : Record) : Type 0 where
  pub slot : (g n : ℕ) → first_structure ≤ g → g < group_count → Held r g → slot_of marks (name_in r g n) ≡ slot_in g
  pub has : (g n : ℕ) → first_structure ≤ g → g < group_count → Held r g → has_slot marks (name_in r g n) ≡ true
  pub nics : extras_of marks nic.id ≡ count extra_most (λ (i : ℕ). is_present (get_or r.structures (extra_nics + i) None))
  pub targets : extras_of marks target.id ≡ count extra_most (λ (i : ℕ). is_present (get_or r.structures (extra_targets + i) None))
