-- What two tables may differ in, as data, in the order named: the OEM fields, Control's flags, presence by pair, flags and
-- fields by pair and offset, strings by pair in entry order. RULES.md, Comparing. Assumes nothing: these are definitions.
use Rattle.std.specs.Prelude.{ℕ, suc, ◌+◌, ◌*◌, ◌^◌, List, [], ◌∷◌, ◌++◌, map, cond, eqb, ltb}
use Rattle.ibft_layout.specs.Layout.{Field, field, StringField, initiator, nic, flags_at, extra_nics, extra_targets, least_index, nic_slot, target_slot}
use Rattle.ibft_compare.specs.Pairs.{kind_in}
use Rattle.ibft_compare.specs.declared.pair.Pair.{Pair}
use Rattle.ibft_compare.specs.declared.difference.Difference.{Difference}
use Rattle.ibft_compare.specs.declared.difference.Difference.TheVariants.{Nothing, OemId, OemTableId, ControlFlags, Presence, Field as FieldOf, Entry}

-- a pair's presence; a field of it; its j-th string
pub data Point : Type 0 where
  oem_id : Point
  oem_table_id : Point
  control_flags : Point
  presence : Pair → Point
  field_at : Pair → Field → Point
  string_at : Pair → ℕ → StringField → Point

-- a pair's flags, which are one field, and the fields behind them
unfoldable pub field_points : Pair → List Point
field_points p = map (field_at p) (field flags_at 1 ∷ (kind_in p).fields)

-- its strings from the j-th on
unfoldable pub string_points_from : Pair → ℕ → List StringField → List Point
string_points_from p j [] = []
string_points_from p j (s ∷ ss) = string_at p j s ∷ string_points_from p (suc j) ss

unfoldable pub string_points : Pair → List Point
string_points p = string_points_from p 0 (kind_in p).string_fields

-- the points of each of these pairs, one after another
unfoldable pub each : (Pair → List Point) → List Pair → List Point
each f [] = []
each f (p ∷ ps) = f p ++ each f ps

unfoldable pub points : List Pair → List Point
points pairs = oem_id ∷ oem_table_id ∷ control_flags ∷ (map presence pairs ++ (each field_points pairs ++ each string_points pairs))

-- how a point is called in an answer: a structure by its kind's ID and its Index
unfoldable pub name_of : Point → Difference
name_of oem_id = OemId
name_of oem_table_id = OemTableId
name_of control_flags = ControlFlags
name_of (presence p) = Presence (kind_in p).id p.index
name_of (field_at p f) = FieldOf (kind_in p).id p.index f.at
name_of (string_at p j s) = Entry (kind_in p).id p.index s.at

-- ---- the order named, by what an answer says

-- the group of the structure with this ID and Index: a named one's is its slot, an extra's the first slot of its kind's extras
unfoldable pub group_of : ℕ → ℕ → ℕ
group_of id index =
    cond (ltb index least_index) (cond (eqb id initiator.id) 0 (cond (eqb id nic.id) (nic_slot index) (target_slot index)))
    (cond (eqb id nic.id) extra_nics extra_targets)

-- its turn among the structures: by group, then by Index
unfoldable pub structure_turn : ℕ → ℕ → ℕ
structure_turn id index = 2 ^ 8 * group_of id index + index

-- a difference's turn in the order named; the header's by their place
unfoldable pub turn_of : Difference → ℕ
turn_of Nothing = 0
turn_of OemId = 10
turn_of OemTableId = 16
turn_of ControlFlags = 53
turn_of (Presence id index) = 2 ^ 20 + 2 ^ 8 * structure_turn id index
turn_of (FieldOf id index at) = 2 * 2 ^ 20 + 2 ^ 8 * structure_turn id index + at
turn_of (Entry id index at) = 3 * 2 ^ 20 + 2 ^ 8 * structure_turn id index + at
