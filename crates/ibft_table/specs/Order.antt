-- The built order: RULES.md, Least Length. A table keeps it where, of any two structures present, the one that comes earlier in
-- the build's order has the lower start. Assumes nothing: these are definitions.
use Rattle.std.specs.Prelude.{ℕ, List, Bool, not, ◌&&◌, leb}
use Rattle.octets.specs.Counting.{any}
use Rattle.ibft_layout.specs.Layout.{slot_count, built_slot}
use Rattle.ibft_table.specs.Table.{starts_of, start_in, present_in}

-- the structures that are i-th and j-th in the build's order are both present, and the j-th does not start after the i-th
unfoldable pub out_of_order : List ℕ → ℕ → ℕ → Bool
out_of_order starts j i =
    present_in starts (built_slot i) && (present_in starts (built_slot j) && leb (start_in starts (built_slot j)) (start_in starts (built_slot i)))

unfoldable pub keeps_in : List ℕ → Bool
keeps_in starts = not (any slot_count (λ (j : ℕ). any j (out_of_order starts j)))

-- of any two structures present, the one earlier in the build's order has the lower start
unfoldable pub keeps_order : List ℕ → Bool
keeps_order t = keeps_in (starts_of t)
