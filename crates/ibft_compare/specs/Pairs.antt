-- Which structures of two tables are compared with each other: pairs, by kind and Index. The named slots, in their order, then
-- the extra NICs and then the extra targets of both tables, each by ascending Index. RULES.md, Comparing. Assumes nothing:
-- these are definitions.
use Rattle.std.specs.Prelude.{ℕ, ◌+◌, ◌-◌, ◌^◌, List, [], ◌∷◌, ◌++◌, cond, ◌&&◌, get_or, eqb, ltb}
use Rattle.octets.specs.Counting.{first, tabulate, gather}
use Rattle.ibft_layout.specs.Layout.{Kind, kind_of, index_of, slot_count, named_count, extra_most, extra_nics, extra_targets, least_index}
use Rattle.ibft_table.specs.Record.{Content}
use Rattle.ibft_compare.specs.declared.pair.Pair.{Pair}

-- A structure that either table may have: its group is its slot where it is a named one, the first slot of an extra of its kind
-- where it is an extra; group and Index name it; then the slot that it has in the left table and in the right one, `slot_count`,
-- where nothing is ever present, for an extra that this table has not. So the type `Pair` of the code has it.

-- its kind
abbrev pub kind_in : Pair → Kind
kind_in p = kind_of p.group

-- a named slot: the same one in both tables
unfoldable pub named_pair : ℕ → Pair
named_pair k = record { group = k; index = index_of k; left = k; right = k }

-- the slot of the extra of this group and Index, of a table with these Indexes by slot. (An absent extra's is 0.)
unfoldable pub slot_as : ℕ → ℕ → ℕ
slot_as group i = cond (ltb i extra_most) (group + i) slot_count

unfoldable pub slot_with : List ℕ → ℕ → ℕ → ℕ
slot_with indices group index = slot_as group (first extra_most (λ (i : ℕ). eqb (get_or indices (group + i) 0) index))

-- the pair of this group and Index where a table has it
unfoldable pub pair_as : ℕ → ℕ → ℕ → ℕ → List Pair
pair_as group index left right =
    cond (eqb left slot_count && eqb right slot_count) [] (record { group = group; index = index; left = left; right = right } ∷ [])

unfoldable pub pair_with : List ℕ → List ℕ → ℕ → ℕ → List Pair
pair_with a b group index = pair_as group index (slot_with a group index) (slot_with b group index)

-- the extras of a group: an Index is a byte, 2 or above
unfoldable pub extra_pairs : List ℕ → List ℕ → ℕ → List Pair
extra_pairs a b group = gather (pair_with a b group) least_index (2 ^ 8 - least_index)

-- the pairs of two tables with these Indexes by slot: 29 at most
unfoldable pub pairs_in : List ℕ → List ℕ → List Pair
pairs_in a b = tabulate named_pair 0 named_count ++ (extra_pairs a b extra_nics ++ extra_pairs a b extra_targets)

unfoldable pub pairs_of : Content → Content → List Pair
pairs_of a b = pairs_in (tabulate a.index 0 slot_count) (tabulate b.index 0 slot_count)
