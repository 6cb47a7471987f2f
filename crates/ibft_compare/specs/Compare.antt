-- The comparing of two tables: the left one's refusal first, then the right one's; refused, nothing is listed and nothing
-- shown. Assumes nothing: these are definitions.
use Rattle.std.specs.Prelude.{ℕ, ◌+◌, List, [], ◌∷◌, cond, length, drop, Ok, Err}
use Rattle.octets.specs.Octets.{part}
use Rattle.table_header.specs.Verdict.{refusal_of, Verdict, Accepted, Refused}
use Rattle.ibft_layout.specs.Layout.{Kind, control_at, flags_at, first_entry}
use Rattle.ibft_table.specs.Table.{starts_of, start_in, present_in, holds_in, offset_in, size_in, offset_of}
use Rattle.ibft_table.specs.Check.{check_of}
use Rattle.ibft_table.specs.Record.{Content, content_of}
use Rattle.ibft_compare.specs.Pairs.{kind_in, pairs_of}
use Rattle.ibft_compare.specs.declared.pair.Pair.{Pair}
use Rattle.ibft_compare.specs.Points.{Point, oem_id, oem_table_id, control_flags, presence, field_at, string_at, points, name_of}
use Rattle.ibft_compare.specs.Differences.{differing, stretch, nothing, shown_at}
use Rattle.ibft_compare.specs.declared.difference.Difference.{Difference}
use Rattle.ibft_compare.specs.declared.difference.Difference.TheVariants.{Nothing}
use Rattle.ibft_compare.specs.declared.difference.Stretch.{Stretch}
use Rattle.ibft_compare.specs.declared.difference.Compared.{Compared}
use Rattle.ibft_compare.specs.declared.difference.DifferenceReading.{DifferenceReading}

-- the verdict on both
unfoldable pub both_verdict : Verdict → Verdict → Verdict
both_verdict (Ok u) right = right
both_verdict (Err e) right = Refused e

-- whose refusal it is: 0 the left table's, 1 the right one's, 0 where there is none
unfoldable pub side_of : Verdict → Verdict → ℕ
side_of (Ok u) (Ok v) = 0
side_of (Ok u) (Err e) = 1
side_of (Err e) right = 0

unfoldable pub verdict_of : List ℕ → List ℕ → Verdict
verdict_of left right = both_verdict (check_of left) (check_of right)

-- the differences of two records
unfoldable pub between : Content → Content → List Point
between a b = differing a b (points (pairs_of a b))

-- of two tables
unfoldable pub list_from : List ℕ → List ℕ → Verdict → List Point
list_from left right (Ok u) = between (content_of left) (content_of right)
list_from left right (Err e) = []

unfoldable pub list_of : List ℕ → List ℕ → List Point
list_of left right = list_from left right (verdict_of left right)

-- how many there are
unfoldable pub compared_of : List ℕ → List ℕ → Compared
compared_of left right =
    record {
      refusal = refusal_of (verdict_of left right);
      side = side_of (check_of left) (check_of right);
      count = length (list_of left right);
    }

-- ---- one difference

-- the bytes of entry n in a table with these starts by slot; nothing where the entry is missing
unfoldable pub entry_stretch : List ℕ → List ℕ → ℕ → Stretch
entry_stretch starts t n = cond (holds_in starts t n) (stretch (offset_in starts t n) (size_in starts t n)) nothing

-- the structure of slot k, of this kind; nothing where it is absent
unfoldable pub structure_stretch : List ℕ → ℕ → Kind → Stretch
structure_stretch starts k kind = cond (present_in starts k) (stretch (start_in starts k) kind.length) nothing

-- what a point names, in a table with these starts by slot, where a pair has the slot `slot p`
unfoldable pub stretch_in : List ℕ → List ℕ → (Pair → ℕ) → Point → Stretch
stretch_in starts t slot oem_id = stretch 10 6
stretch_in starts t slot oem_table_id = stretch 16 8
stretch_in starts t slot control_flags = stretch (control_at + flags_at) 1
stretch_in starts t slot (presence p) = structure_stretch starts (slot p) (kind_in p)
stretch_in starts t slot (field_at p f) = stretch (start_in starts (slot p) + f.at) f.width
stretch_in starts t slot (string_at p j s) = entry_stretch starts t (first_entry (slot p) + j)

-- in each of two tables
abbrev pub left_stretch : List ℕ → Point → Stretch
left_stretch left = stretch_in (starts_of left) left (λ (p : Pair). p.left)

abbrev pub right_stretch : List ℕ → Point → Stretch
right_stretch right = stretch_in (starts_of right) right (λ (p : Pair). p.right)

-- the differing bytes, of the left table
abbrev pub shown_stretch : List ℕ → List ℕ → Point → Stretch
shown_stretch left right = shown_at (offset_of left) (content_of left) (content_of right)

-- of the first of these points; nothing where there is none
unfoldable pub first_name : List Point → Difference
first_name [] = Nothing
first_name (p ∷ ps) = name_of p

unfoldable pub first_stretch : (Point → Stretch) → List Point → Stretch
first_stretch f [] = nothing
first_stretch f (p ∷ ps) = f p

-- difference k, counted from 0
abbrev pub from_on : List ℕ → List ℕ → ℕ → List Point
from_on left right k = drop k (list_of left right)

unfoldable pub shown_of : List ℕ → List ℕ → ℕ → Stretch
shown_of left right k = first_stretch (shown_stretch left right) (from_on left right k)

unfoldable pub difference_of : List ℕ → List ℕ → ℕ → DifferenceReading
difference_of left right k =
    record {
      refusal = refusal_of (verdict_of left right);
      side = side_of (check_of left) (check_of right);
      difference = first_name (from_on left right k);
      left = first_stretch (left_stretch left) (from_on left right k);
      right = first_stretch (right_stretch right) (from_on left right k);
      shown = shown_of left right k;
    }

-- the differing bytes themselves
unfoldable pub view_of : List ℕ → List ℕ → ℕ → List ℕ
view_of left right k = part left (shown_of left right k).start (shown_of left right k).length
