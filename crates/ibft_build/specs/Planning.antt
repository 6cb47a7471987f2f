-- What a build plans before it writes, as the code keeps it: a list for all entries or all structures, made once.
-- Assumes nothing: these are definitions.
use Rattle.std.specs.Prelude.{◌≡◌, List, Bool, true, cond, ◌&&◌, ℕ, ◌+◌, ◌≤◌, ◌<◌, length, ltb}
use Rattle.octets.specs.Counting.{tabulate}
use Rattle.string_heap.specs.Stored.{Entry, stored, size}
use Rattle.string_heap.specs.Places.{ends_with}
use Rattle.string_heap.specs.Starts.{align8, end_to}
use Rattle.ibft_layout.specs.Layout.{kind_of, slot_count, entry_count, owner_of}
use Rattle.ibft_layout.specs.Layout.{string_of, control_end, built_slot, may_share}
use Rattle.ibft_build_rules.specs.RecordRange.{base_size, image_at, structure_given, entry_given, length_given, start_given, content_given}
use Rattle.ibft_record.specs.Limits.{entry_limit, extras_given}
use Rattle.ibft_build_rules.specs.Plan.{turn_of, length_built, offset_built}
use Rattle.ibft_build_rules.specs.Build.{answer_of, room_after}
use Rattle.ibft_build_rules.specs.declared.Built.{Built}

-- the range has the images of all that it gives
pub record Whole (r : List ℕ) : Type 0 where
  pub base : base_size ≤ length r
  pub images : (k : ℕ) → structure_given r k ≡ true → image_at r k + (kind_of k).length ≤ length r

-- no present entry is too long
abbrev pub Short : List ℕ → Type 0
Short r = (n : ℕ) → n < entry_count → entry_given r n ≡ true → length_given r n ≤ 255

-- what the plan takes for granted, since the refusals come first: the range is whole, and each present entry lies in the
-- strings range and is not too long
pub record Readable (r s : List ℕ) : Type 0 where
  pub whole : Whole r
  pub lies : (n : ℕ) → n < entry_count → entry_given r n ≡ true → start_given r n + length_given r n ≤ length s
  pub short : Short r

-- where the range holds the length of entry n, of those to look at; its start stands 2 further
unfoldable pub field_given : List ℕ → ℕ → ℕ
field_given r n = cond (ltb n (entry_limit r)) (image_at r (owner_of n) + (string_of n).at) 0

unfoldable pub entry_fields : List ℕ → List ℕ
entry_fields r = tabulate (field_given r) 0 entry_count

-- the entries
abbrev pub entries_given : List ℕ → List ℕ → ℕ → Entry
entries_given r s = (content_given r s).entry

-- what entry n takes in the heap where it is stored, its bytes and one zero; 0 where it is missing
unfoldable pub wanted_given : List ℕ → ℕ → ℕ
wanted_given r n = cond (entry_given r n) (length_given r n + 1) 0

unfoldable pub wanted_sizes : List ℕ → List ℕ
wanted_sizes r = tabulate (wanted_given r) 0 entry_count

-- what each entry takes in the heap
unfoldable pub size_given : List ℕ → List ℕ → ℕ → ℕ
size_given r s n = size entry_count may_share (entries_given r s) n

unfoldable pub heap_sizes : List ℕ → List ℕ → List ℕ
heap_sizes r s = tabulate (size_given r s) 0 entry_count

-- whether entry j can hold the bytes a of an entry that is not stored: it is stored, ends with them, and may share
abbrev pub can_hold : List ℕ → List ℕ → List ℕ → ℕ → Bool
can_hold r s a j = stored entry_count may_share (entries_given r s) j && ends_with a (entries_given r s j) && may_share j

-- where each entry stands
unfoldable pub entry_offsets : List ℕ → List ℕ → List ℕ
entry_offsets r s = tabulate (offset_built (content_given r s)) 0 entry_count

-- where the first j structures of the build's order end, and all of these places
unfoldable pub end_given : List ℕ → ℕ → ℕ
end_given r j = end_to (λ (i : ℕ). structure_given r (built_slot i)) (λ (i : ℕ). (kind_of (built_slot i)).length) (control_end (extras_given r)) j

unfoldable pub structure_ends : List ℕ → List ℕ
structure_ends r = tabulate (end_given r) 0 (slot_count + 1)

-- where slot k's structure starts, 0 where it is absent
unfoldable pub structure_start : List ℕ → ℕ → ℕ
structure_start r k = cond (structure_given r k) (align8 (end_given r (turn_of k))) 0

-- the whole plan: where structures end; of each entry where the range holds its words, what it would take in the heap, what it
-- takes there, and its offset; the table's Length
pub record Planned (r s ends fields wanted sizes offsets : List ℕ) (size : ℕ) : Type 0 where
  pub ends-are : ends ≡ structure_ends r
  pub fields-are : fields ≡ entry_fields r
  pub wanted-are : wanted ≡ wanted_sizes r
  pub sizes-are : sizes ≡ heap_sizes r s
  pub offsets_are : offsets ≡ entry_offsets r s
  pub length-is : size ≡ length_built (content_given r s)

-- what a build leaves: its answer and the room after it are the definitions'
pub record Ends (r s before : List ℕ) (answer : Built) (after : List ℕ) : Type 0 where
  pub answer-is : answer ≡ answer_of r s (length before)
  pub room-is : after ≡ room_after r s before
