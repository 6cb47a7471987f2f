-- Whether two records differ at a point, and what is shown for it from the left table. Assumes nothing: these are definitions.
use Rattle.std.specs.Prelude.{ℕ, ◌+◌, ◌-◌, min, List, [], ◌∷◌, Bool, true, false, cond, not, ◌&&◌, length, eqb, Option, None, Some}
use Rattle.octets.specs.Counting.{first}
use Rattle.octets.specs.Octets.{byte, part, differs}
use Rattle.ibft_layout.specs.Layout.{Field, flags_at, first_entry}
use Rattle.ibft_table.specs.Record.{Content}
use Rattle.ibft_compare.specs.declared.pair.Pair.{Pair}
use Rattle.ibft_compare.specs.Points.{Point, oem_id, oem_table_id, control_flags, presence, field_at, string_at}
use Rattle.ibft_compare.specs.declared.difference.Stretch.{Stretch}

-- the first unequal byte of two strings: how many first bytes are the same in both
unfoldable pub first_unequal : List ℕ → List ℕ → ℕ
first_unequal a b = first (min (length a) (length b)) (λ (k : ℕ). differs (byte a k) (byte b k))

unfoldable pub unequal : List ℕ → List ℕ → Bool
unequal a b = not (eqb (length a) (length b) && eqb (first_unequal a b) (length a))

-- only one table has the structure
unfoldable pub in_one : Option (List ℕ) → Option (List ℕ) → Bool
in_one None None = false
in_one None (Some y) = true
in_one (Some x) None = true
in_one (Some x) (Some y) = false

-- both have it, and this field differs; flags and fields are the bytes from 5 on
unfoldable pub field_differs : Field → Option (List ℕ) → Option (List ℕ) → Bool
field_differs f None y = false
field_differs f (Some x) None = false
field_differs f (Some x) (Some y) = unequal (part x (f.at - flags_at) f.width) (part y (f.at - flags_at) f.width)

-- a string: missing against empty is a difference
unfoldable pub string_differs : Option (List ℕ) → Option (List ℕ) → Bool
string_differs None None = false
string_differs None (Some y) = true
string_differs (Some x) None = true
string_differs (Some x) (Some y) = unequal x y

-- what each of the two records has of a pair: its flags and fields, its j-th string
abbrev pub left_of : Content → Pair → Option (List ℕ)
left_of a p = a.structure p.left

abbrev pub right_of : Content → Pair → Option (List ℕ)
right_of b p = b.structure p.right

abbrev pub left_string : Content → Pair → ℕ → Option (List ℕ)
left_string a p j = a.entry (first_entry p.left + j)

abbrev pub right_string : Content → Pair → ℕ → Option (List ℕ)
right_string b p j = b.entry (first_entry p.right + j)

-- the two records differ at this point; the strings of a structure that only one of them has are not looked at
unfoldable pub differ_at : Content → Content → Point → Bool
differ_at a b oem_id = unequal a.oem_id b.oem_id
differ_at a b oem_table_id = unequal a.oem_table_id b.oem_table_id
differ_at a b control_flags = differs a.flags b.flags
differ_at a b (presence p) = in_one (left_of a p) (right_of b p)
differ_at a b (field_at p f) = field_differs f (left_of a p) (right_of b p)
differ_at a b (string_at p j s) = not (in_one (left_of a p) (right_of b p)) && string_differs (left_string a p j) (right_string b p j)

-- those of these points at which they differ
unfoldable pub differing : Content → Content → List Point → List Point
differing a b [] = []
differing a b (p ∷ ps) = cond (differ_at a b p) (p ∷ differing a b ps) (differing a b ps)

-- ---- what is shown

-- a stretch of a table; one that starts at 0 is not in it
abbrev pub stretch : ℕ → ℕ → Stretch
stretch start size = record { start = start; length = size }

abbrev pub nothing : Stretch
nothing = stretch 0 0

-- of the left string x, which stands at `at`: from the first unequal byte to its end; all of it where the right one is missing
unfoldable pub unequal_part : ℕ → Option (List ℕ) → Option (List ℕ) → Stretch
unequal_part at None y = nothing
unequal_part at (Some x) None = stretch at (length x)
unequal_part at (Some x) (Some y) = stretch (at + first_unequal x y) (length x - first_unequal x y)

-- at this point, where entry n of the left table stands at `at n`
unfoldable pub shown_at : (ℕ → ℕ) → Content → Content → Point → Stretch
shown_at at a b oem_id = nothing
shown_at at a b oem_table_id = nothing
shown_at at a b control_flags = nothing
shown_at at a b (presence p) = nothing
shown_at at a b (field_at p f) = nothing
shown_at at a b (string_at p j s) = unequal_part (at (first_entry p.left + j)) (left_string a p j) (right_string b p j)
