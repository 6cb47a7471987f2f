-- The pairs and points, worked out, what differs between two records with extras, and what is shown of strings, by computation.
use Rattle.std.specs.Prelude.{◌≡◌, refl, List, [], ◌∷◌, ◌++◌, map, Bool, true, cond, ◌&&◌, ◌||◌, ℕ, zero, suc, length, take, drop, get_or, eqb, ltb, Option, None, Some}
use Rattle.octets.specs.Counting.{tabulate}
use Rattle.octets.specs.Octets.{zeros}
use Rattle.ibft_layout.specs.Layout.{kind_of, index_of, owner_of, named_count}
use Rattle.ibft_table.specs.Record.{Content, body_size, shown_if}
use Rattle.ibft_compare.specs.Pairs.{pairs_in}
use Rattle.ibft_compare.specs.declared.pair.Pair.{Pair}
use Rattle.ibft_compare.specs.Points.{points, name_of, turn_of}
use Rattle.ibft_compare.specs.Differences.{unequal_part}
use Rattle.ibft_compare.specs.Compare.{between}
use Rattle.ibft_compare.specs.Computing.{computing}
use Rattle.ibft_compare.specs.declared.difference.Difference.{Difference}
use Rattle.ibft_compare.specs.declared.difference.Difference.TheVariants.{OemId, OemTableId, ControlFlags, Presence, Field, Entry}

-- ---- the pairs

-- the Indexes by slot of a table with these six of extra NICs and these six of extra targets
by_index : List ℕ → List ℕ → List ℕ
by_index nics targets = tabulate index_of 0 named_count ++ (nics ++ targets)

abbrev nobody : List ℕ
nobody = zeros 6

row_of : Pair → List ℕ
row_of p = p.group ∷ p.index ∷ p.left ∷ p.right ∷ []

-- NICs 2 and 9 and Target 255 against NICs 5 and 9 and Targets 3 and 255: group, Index, slot on the left, slot on the right
paired : map row_of (drop named_count (pairs_in (by_index (2 ∷ 9 ∷ zeros 4) (255 ∷ zeros 5)) (by_index (5 ∷ 9 ∷ zeros 4) (3 ∷ 255 ∷ zeros 4))))
    ≡ (5 ∷ 2 ∷ 5 ∷ 17 ∷ []) ∷ (5 ∷ 5 ∷ 17 ∷ 5 ∷ []) ∷ (5 ∷ 9 ∷ 6 ∷ 6 ∷ []) ∷ (11 ∷ 3 ∷ 17 ∷ 11 ∷ []) ∷ (11 ∷ 255 ∷ 11 ∷ 12 ∷ []) ∷ []
unfolding computing by_index row_of
paired = refl

-- without extras the five named slots; no Index in common, 29
how-many-pairs : (map row_of (pairs_in (by_index nobody nobody) (by_index nobody nobody)) ≡ (0 ∷ 0 ∷ 0 ∷ 0 ∷ [])
    ∷ (1 ∷ 0 ∷ 1 ∷ 1 ∷ []) ∷ (2 ∷ 0 ∷ 2 ∷ 2 ∷ []) ∷ (3 ∷ 1 ∷ 3 ∷ 3 ∷ []) ∷ (4 ∷ 1 ∷ 4 ∷ 4 ∷ []) ∷ [])
    × (length (pairs_in (by_index (2 ∷ 4 ∷ 6 ∷ 8 ∷ 10 ∷ 12 ∷ []) (2 ∷ 4 ∷ 6 ∷ 8 ∷ 10 ∷ 12 ∷ []))
    (by_index (3 ∷ 5 ∷ 7 ∷ 9 ∷ 11 ∷ 13 ∷ []) (250 ∷ 251 ∷ 252 ∷ 253 ∷ 254 ∷ 255 ∷ []))) ≡ 29)
unfolding computing by_index row_of
how-many-pairs = (refl, refl)

-- ---- the points of the named slots: the header and presence, the initiator's and Target 1's fields, the strings

named : List Pair
named = pairs_in (by_index nobody nobody) (by_index nobody nobody)

how-many : length (points named) ≡ 60
unfolding computing by_index named
how-many = refl

header-and-presence : map name_of (take 8 (points named))
    ≡ OemId ∷ OemTableId ∷ ControlFlags ∷ Presence 2 0 ∷ Presence 3 0 ∷ Presence 4 0 ∷ Presence 3 1 ∷ Presence 4 1 ∷ []
unfolding computing by_index named
header-and-presence = refl

initiator-fields : map name_of (take 5 (drop 8 (points named))) ≡ Field 2 0 5 ∷ Field 2 0 6 ∷ Field 2 0 22 ∷ Field 2 0 38 ∷ Field 2 0 54 ∷ []
unfolding computing by_index named
initiator-fields = refl

target-fields : map name_of (take 6 (drop 41 (points named))) ≡ Field 4 1 5 ∷ Field 4 1 6 ∷ Field 4 1 22 ∷ Field 4 1 24 ∷ Field 4 1 32 ∷ Field 4 1 33 ∷ []
unfolding computing by_index named
target-fields = refl

strings : map name_of (drop 47 (points named))
    ≡ Entry 2 0 70 ∷ Entry 3 0 98 ∷ Entry 4 0 34 ∷ Entry 4 0 38 ∷ Entry 4 0 42 ∷ Entry 4 0 46 ∷ Entry 4 0 50
    ∷ Entry 3 1 98 ∷ Entry 4 1 34 ∷ Entry 4 1 38 ∷ Entry 4 1 42 ∷ Entry 4 1 46 ∷ Entry 4 1 50 ∷ []
unfolding computing by_index named
strings = refl

-- each turn is below the next; so with all Indexes that two tables can have
rises : List ℕ → Bool
rises [] = true
rises (a ∷ []) = true
rises (a ∷ b ∷ s) = ltb a b && rises (b ∷ s)

in_order : (rises (map turn_of (map name_of (points named))) ≡ true)
    × (rises (map turn_of (map name_of (points
    (pairs_in (by_index (2 ∷ 4 ∷ 6 ∷ 8 ∷ 10 ∷ 12 ∷ []) (2 ∷ 4 ∷ 6 ∷ 8 ∷ 10 ∷ 12 ∷ []))
    (by_index (3 ∷ 5 ∷ 7 ∷ 9 ∷ 11 ∷ 13 ∷ []) (250 ∷ 251 ∷ 252 ∷ 253 ∷ 254 ∷ 255 ∷ [])))))) ≡ true)
unfolding computing rises by_index named
in_order = (refl, refl)

-- ---- records

-- Target 0 alone, with this CHAP name
target : Option (List ℕ) → Content
target name =
    record {
      oem_id = zeros 6;
      oem_table_id = zeros 8;
      flags = 0;
      structure = λ (k : ℕ). shown_if (eqb k 2) (zeros 29);
      index = λ (k : ℕ). cond (ltb k named_count) (index_of k) 0;
      entry = λ (n : ℕ). cond (eqb n 3) name None;
    }

-- nothing present
bare : Content
bare =
    record {
      oem_id = zeros 6;
      oem_table_id = zeros 8;
      flags = 0;
      structure = λ (k : ℕ). None;
      index = λ (k : ℕ). cond (ltb k named_count) (index_of k) 0;
      entry = λ (n : ℕ). None;
    }

-- all named structures and these extras, every byte of the OEM fields, the flags and the fields `b`, every string one such byte
fill : ℕ → ℕ → List ℕ
fill b zero = []
fill b (suc n) = b ∷ fill b n

there : List ℕ → ℕ → Bool
there indices k = ltb k named_count || ltb 1 (get_or indices k 0)

all : ℕ → List ℕ → List ℕ → Content
all b nics targets =
    record {
      oem_id = fill b 6;
      oem_table_id = fill b 8;
      flags = b;
      structure = λ (k : ℕ). shown_if (there (by_index nics targets) k) (fill b (body_size (kind_of k)));
      index = λ (k : ℕ). get_or (by_index nics targets) k 0;
      entry = λ (n : ℕ). shown_if (there (by_index nics targets) (owner_of n)) (b ∷ []);
    }

names : Content → Content → List Difference
names a b = map name_of (between a b)

-- ---- what differs

-- the same; another last byte; missing against empty, both ways
same_name : names (target (Some (97 ∷ 98 ∷ []))) (target (Some (97 ∷ 98 ∷ []))) ≡ []
unfolding computing target names
same_name = refl

another-byte : names (target (Some (97 ∷ 98 ∷ []))) (target (Some (97 ∷ 99 ∷ []))) ≡ Entry 4 0 38 ∷ []
unfolding computing target names
another-byte = refl

missing-and-empty : (names (target None) (target (Some [])) ≡ Entry 4 0 38 ∷ []) × (names (target (Some [])) (target None) ≡ Entry 4 0 38 ∷ [])
unfolding computing target names
missing-and-empty = (refl, refl)

-- a structure that only one table has: its contents and strings are not listed
only-one : (names (target (Some (97 ∷ []))) bare ≡ Presence 4 0 ∷ []) × (names bare (target (Some (97 ∷ []))) ≡ Presence 4 0 ∷ [])
unfolding computing target bare names
only-one = (refl, refl)

-- an Index that only one of them has is one difference, and so is the other's; NICs first. The same Index in another slot is no
-- difference.
extras : names (all 0 (2 ∷ 9 ∷ zeros 4) (255 ∷ zeros 5)) (all 0 (5 ∷ 9 ∷ zeros 4) (3 ∷ 255 ∷ zeros 4)) ≡ Presence 3 2 ∷ Presence 3 5 ∷ Presence 4 3 ∷ []
unfolding computing by_index fill there all names
extras = refl

-- The most that two tables can differ in, 193: 3, 6 of the initiator, 12 of each of eight NICs, 11 of each of eight targets.
-- With one other Index there are fewer: two presences for the twelve of a NIC.
most : (length (between (all 0 (2 ∷ 3 ∷ 4 ∷ 5 ∷ 6 ∷ 7 ∷ []) (2 ∷ 3 ∷ 4 ∷ 5 ∷ 6 ∷ 255 ∷ []))
    (all 1 (2 ∷ 3 ∷ 4 ∷ 5 ∷ 6 ∷ 7 ∷ []) (2 ∷ 3 ∷ 4 ∷ 5 ∷ 6 ∷ 255 ∷ []))) ≡ 193)
    × (length (between (all 0 (2 ∷ 3 ∷ 4 ∷ 5 ∷ 6 ∷ 7 ∷ []) (2 ∷ 3 ∷ 4 ∷ 5 ∷ 6 ∷ 255 ∷ []))
    (all 1 (2 ∷ 3 ∷ 4 ∷ 5 ∷ 6 ∷ 8 ∷ []) (2 ∷ 3 ∷ 4 ∷ 5 ∷ 6 ∷ 255 ∷ []))) ≡ 183)
unfolding computing by_index fill there all
most = (refl, refl)

-- ---- what is shown of the left name, which stands at 126

shown : Option (List ℕ) → Option (List ℕ) → List ℕ
shown x y = (unequal_part 126 x y).start ∷ (unequal_part 126 x y).length ∷ []

-- `abc` against `abd`, `xbc`, `ab`, `abcd`, none; none against `abc`; empty against none: where it starts, how many bytes
shown-bytes : shown (Some (97 ∷ 98 ∷ 99 ∷ [])) (Some (97 ∷ 98 ∷ 100 ∷ []))
    ∷ shown (Some (97 ∷ 98 ∷ 99 ∷ [])) (Some (120 ∷ 98 ∷ 99 ∷ []))
    ∷ shown (Some (97 ∷ 98 ∷ 99 ∷ [])) (Some (97 ∷ 98 ∷ []))
    ∷ shown (Some (97 ∷ 98 ∷ 99 ∷ [])) (Some (97 ∷ 98 ∷ 99 ∷ 100 ∷ []))
    ∷ shown (Some (97 ∷ 98 ∷ 99 ∷ [])) None
    ∷ shown None (Some (97 ∷ 98 ∷ 99 ∷ []))
    ∷ shown (Some []) None
    ∷ []
    ≡ (128 ∷ 1 ∷ []) ∷ (126 ∷ 3 ∷ []) ∷ (128 ∷ 1 ∷ []) ∷ (129 ∷ 0 ∷ []) ∷ (126 ∷ 3 ∷ []) ∷ (0 ∷ 0 ∷ []) ∷ (126 ∷ 0 ∷ []) ∷ []
unfolding computing shown
shown-bytes = refl
