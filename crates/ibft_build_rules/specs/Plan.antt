-- Where a build puts things: structures in the build's order, the first at the first multiple of 8 at or behind Control's end,
-- each next at the next; then the heap. Assumes nothing: these are definitions.
use Rattle.std.specs.Prelude.{ℕ, ◌+◌, List, Bool, true, false, cond, eqb, Option, None, Some}
use Rattle.octets.specs.Counting.{first, count}
use Rattle.string_heap.specs.Stored.{Entry, heap_size}
use Rattle.string_heap.specs.Places.{place}
use Rattle.string_heap.specs.Starts.{align8, end_to}
use Rattle.ibft_layout.specs.Layout.{kind_of, slot_count, entry_count, named_count, most_words, control_end, built_slot, may_share}
use Rattle.ibft_table.specs.Record.{Content}

unfoldable pub is_present : Option (List ℕ) → Bool
is_present None = false
is_present (Some b) = true

-- how many extra structures there are: Control has a word for each
unfoldable pub extras_built : Content → ℕ
extras_built c = count most_words (λ (i : ℕ). is_present (c.structure (named_count + i)))

-- where the first j structures of the build's order end
unfoldable pub end_built : Content → ℕ → ℕ
end_built c j = end_to (λ (i : ℕ). is_present (c.structure (built_slot i))) (λ (i : ℕ). (kind_of (built_slot i)).length) (control_end (extras_built c)) j

-- slot k's turn in the build's order
unfoldable pub turn_of : ℕ → ℕ
turn_of k = first slot_count (λ (j : ℕ). eqb (built_slot j) k)

-- the start of slot k's structure, 0 where it is absent
unfoldable pub start_built : Content → ℕ → ℕ
start_built c k = cond (is_present (c.structure k)) (align8 (end_built c (turn_of k))) 0

-- the heap starts where the last structure ends
unfoldable pub heap_start : Content → ℕ
heap_start c = end_built c slot_count

unfoldable pub length_built : Content → ℕ
length_built c = heap_start c + heap_size entry_count may_share c.entry

-- the largest: every structure, and every string at its longest with bytes of its own
abbrev pub largest_length : ℕ
largest_length = 13710

-- the offset of entry n, 0 where it is missing
unfoldable pub offset_as : Content → ℕ → Entry → ℕ
offset_as c n None = 0
offset_as c n (Some a) = heap_start c + place entry_count may_share c.entry n a

unfoldable pub offset_built : Content → ℕ → ℕ
offset_built c n = offset_as c n (c.entry n)
