-- What the functions inside say: a walk along points, in which the differences are counted and the one asked for is kept.
-- Callers need none of it. Assumes nothing: these are definitions.
use Rattle.std.specs.Prelude.{ℕ, suc, ◌+◌, ◌-◌, ◌≤◌, ◌<◌, ◌≡◌, ◌⊎◌, List, [], ◌∷◌, Bool, true, false, cond, not, length, get_or, eqb}
use Rattle.octets.specs.Counting.{tabulate}
use Rattle.octets.specs.Octets.{part}
use Rattle.ibft_layout.specs.Layout.{kind_of, kind_field, string_of, first_entry, slot_count, named_count, extra_most, extra_nics, extra_targets}
use Rattle.ibft_table.specs.Table.{starts_of, index_in}
use Rattle.ibft_table.specs.Record.{content_of}
use Rattle.ibft_compare.specs.Pairs.{kind_in, named_pair}
use Rattle.ibft_compare.specs.Points.{Point, presence, field_at, string_at, field_points, string_points, name_of}
use Rattle.ibft_compare.specs.Differences.{first_unequal, differ_at, stretch, nothing}
use Rattle.ibft_compare.specs.Compare.{left_stretch, right_stretch}
use Rattle.ibft_compare.specs.declared.difference.Difference.{Difference}
use Rattle.ibft_compare.specs.declared.difference.Difference.TheVariants.{Nothing, OemId, OemTableId, ControlFlags, Presence as PresenceOf, Field, Entry}
use Rattle.ibft_compare.specs.declared.difference.Stretch.{Stretch}
use Rattle.ibft_compare.specs.declared.pair.Pair.{Pair}
use Rattle.ibft_compare.specs.declared.walk.Aspect.{Aspect}
use Rattle.ibft_compare.specs.declared.walk.Aspect.TheVariants.{Presence, Fields, Strings}
use Rattle.ibft_compare.specs.declared.walk.Met.{Met}

-- only one of the two holds
unfoldable pub only_one : Bool → Bool → Bool
only_one true b = not b
only_one false b = b

-- the Indexes of a table by slot
abbrev pub indices_of : List ℕ → List ℕ
indices_of t = tabulate (λ (k : ℕ). index_in (starts_of t) t k) 0 slot_count

-- a slot of the group's kind, or no slot
abbrev pub Seat : ℕ → ℕ → Type 0
Seat group slot = ((slot < slot_count) × (kind_of slot ≡ kind_of group)) ⊎ (slot ≡ slot_count)

-- a pair of structures of one kind
pub record Paired (p : Pair) : Type 0 where
  pub group : p.group < slot_count
  pub left : Seat p.group p.left
  pub right : Seat p.group p.right

-- the named slots as pairs; a group of extras
abbrev pub named_pairs : List Pair
named_pairs = tabulate named_pair 0 named_count

abbrev pub ExtraGroup : ℕ → Type 0
ExtraGroup group = (group ≡ extra_nics) ⊎ (group ≡ extra_targets)

-- no extra of the group has an Index between the two, in a table with these Indexes by slot
abbrev pub NoneBetween : List ℕ → ℕ → ℕ → ℕ → Type 0
NoneBetween indices group after next = (i : ℕ) → i < extra_most → after < get_or indices (group + i) 0 → next ≤ get_or indices (group + i) 0

-- no byte of the string lies between the two
abbrev pub NoneAbove : List ℕ → ℕ → ℕ → Type 0
NoneAbove s after next = (i : ℕ) → i < length s → after < get_or s i 0 → next ≤ get_or s i 0

-- what is walked along: the presence of a pair, or its flags and fields, or its strings
unfoldable pub points_in : Aspect → Pair → List Point
points_in Presence p = presence p ∷ []
points_in Fields p = field_points p
points_in Strings p = string_points p

-- how many points those are, and the n-th of them
unfoldable pub count_in : Aspect → Pair → ℕ
count_in Presence p = 1
count_in Fields p = suc (length (kind_in p).fields)
count_in Strings p = length (kind_in p).string_fields

unfoldable pub point_in : Aspect → Pair → ℕ → Point
point_in Presence p n = presence p
point_in Fields p n = field_at p (kind_field (kind_in p) n)
point_in Strings p n = string_at p n (string_of (first_entry p.group + n))

-- nothing is met yet, and difference `wanted` is asked for
abbrev pub unmet : ℕ → Met
unmet wanted = record { wanted = wanted; count = 0; difference = Nothing; left = nothing; right = nothing }

-- a difference more: it is kept where it is the one asked for
unfoldable pub counted : Met → Difference → Stretch → Stretch → Met
counted m difference left right =
    cond (eqb m.count m.wanted)
    (record { wanted = m.wanted; count = m.count + 1; difference = difference; left = left; right = right })
    (record { wanted = m.wanted; count = m.count + 1; difference = m.difference; left = m.left; right = m.right })

-- at a point of two tables
unfoldable pub met_at : List ℕ → List ℕ → Met → Point → Met
met_at left right m p =
    cond (differ_at (content_of left) (content_of right) p) (counted m (name_of p) (left_stretch left p) (right_stretch right p)) m

-- along these points
unfoldable pub walked : List ℕ → List ℕ → Met → List Point → Met
walked left right m [] = m
walked left right m (p ∷ ps) = walked left right (met_at left right m p) ps

-- of the left string, which stands at l, what differs from the right one, which stands at r
unfoldable pub part_shown : List ℕ → Stretch → List ℕ → Stretch → Stretch
part_shown left l right r =
    let k = first_unequal (part left l.start l.length) (part right r.start r.length) in
    cond (eqb l.start 0) nothing (cond (eqb r.start 0) l (stretch (l.start + k) (l.length - k)))

-- only of an entry is something shown; where it stands in the left table
unfoldable pub shown_by : Difference → Stretch → Stretch
shown_by Nothing shown = nothing
shown_by OemId shown = nothing
shown_by OemTableId shown = nothing
shown_by ControlFlags shown = nothing
shown_by (PresenceOf id index) shown = nothing
shown_by (Field id index at) shown = nothing
shown_by (Entry id index at) shown = shown
