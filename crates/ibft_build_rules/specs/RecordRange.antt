-- The record that a build is given: one byte range, and one for strings. Assumes nothing: these are definitions.
--     0  6    OEMID                                   15  5   presence marks of slots 0 to 4, each 0 or 1
--     6  8    OEM Table ID                            20  13  presence marks of entries 0 to 12, each 0 or 1
--     14 1    Control's flags                         33  ..  an image for each of the five named slots, in slot order
-- So far 419 bytes, and a range may end here: it gives no extra structure. Else there follow
--     419 1   how many extra NICs                     421 ..  for each extra NIC its image (102) and its entry's mark (1),
--     420 1   how many extra targets then for each extra target its image (54) and its entries' marks (5)
-- An image has the table's own layout of that structure: flags at 5, the fields at their places; of an extra the Index, at 4,
-- too. Each string's two words hold its length and its start in the strings range.
use Rattle.std.specs.Prelude.{ℕ, ◌+◌, ◌*◌, ◌-◌, List, Bool, cond, ◌&&◌, length, eqb, ltb}
use Rattle.octets.specs.Counting.{sum_to}
use Rattle.octets.specs.Octets.{byte, word16, part}
use Rattle.ibft_layout.specs.Layout.{Kind, nic, target, kind_of, index_of, slot_count, named_count, named_entries, extra_nics, extra_targets}
use Rattle.ibft_layout.specs.Layout.{owner_of, string_of, first_entry}
use Rattle.ibft_table.specs.Record.{Record, Content, listed, shown_if, body_size}

-- ---- where things stand in the range

-- the size of a range that gives no extras and no numbers of them
abbrev pub base_size : ℕ
base_size = 419

-- the first presence mark; the entries' marks follow the slots'
abbrev pub marks_at : ℕ
marks_at = 15

-- how many extras of each kind; of a range of 419 none, since a byte past the end reads 0
abbrev pub nics_at : ℕ
nics_at = 419

abbrev pub nics_given : List ℕ → ℕ
nics_given r = byte r nics_at

abbrev pub targets_given : List ℕ → ℕ
targets_given r = byte r (nics_at + 1)

-- what an extra takes, and where the image of the i-th extra NIC and of the i-th extra target starts
abbrev pub extra_size : Kind → ℕ
extra_size kind = kind.length + length kind.string_fields

unfoldable pub nic_image : ℕ → ℕ
nic_image i = nics_at + 2 + extra_size nic * i

unfoldable pub target_image : List ℕ → ℕ → ℕ
target_image r i = nic_image (nics_given r) + extra_size target * i

-- the size of the range that has so many
unfoldable pub range_size : List ℕ → ℕ
range_size r = target_image r (targets_given r)

-- the size of the largest, with six extras of each kind
abbrev pub largest_size : ℕ
largest_size = 1393

-- where slot k's image starts: that of a named slot has its fixed place
unfoldable pub named_image : ℕ → ℕ
named_image k = marks_at + named_count + named_entries + sum_to k (λ (i : ℕ). (kind_of i).length)

unfoldable pub image_at : List ℕ → ℕ → ℕ
image_at r k =
    cond (ltb k named_count) (named_image k)
    (cond (ltb k extra_targets) (nic_image (k - extra_nics)) (target_image r (k - extra_targets)))

-- where entry n's mark stands: an extra's behind its image
unfoldable pub mark_at : List ℕ → ℕ → ℕ
mark_at r n =
    cond (ltb n named_entries) (marks_at + named_count + n)
    (image_at r (owner_of n) + (kind_of (owner_of n)).length + (n - first_entry (owner_of n)))

-- ---- the record

-- slot k's structure is present
unfoldable pub structure_given : List ℕ → ℕ → Bool
structure_given r k =
    cond (ltb k named_count) (eqb (byte r (marks_at + k)) 1)
    (cond (ltb k extra_targets) (ltb (k - extra_nics) (nics_given r)) (ltb k slot_count && ltb (k - extra_targets) (targets_given r)))

-- its Index, 0 where an extra is absent
unfoldable pub index_given : List ℕ → ℕ → ℕ
index_given r k = cond (ltb k named_count) (index_of k) (cond (structure_given r k) (byte r (image_at r k + 4)) 0)

-- entry n is present: it is marked, and its structure is present
unfoldable pub entry_given : List ℕ → ℕ → Bool
entry_given r n = structure_given r (owner_of n) && eqb (byte r (mark_at r n)) 1

-- entry n's length and its start in the strings range
unfoldable pub length_given : List ℕ → ℕ → ℕ
length_given r n = word16 r (image_at r (owner_of n) + (string_of n).at)

unfoldable pub start_given : List ℕ → ℕ → ℕ
start_given r n = word16 r (image_at r (owner_of n) + (string_of n).at + 2)

-- its bytes
unfoldable pub bytes_given : List ℕ → List ℕ → ℕ → List ℕ
bytes_given r s n = part s (start_given r n) (length_given r n)

-- the record: what is given for an absent structure or a missing entry is no part of it
unfoldable pub content_given : List ℕ → List ℕ → Content
content_given r s =
    record {
      oem_id = part r 0 6;
      oem_table_id = part r 6 8;
      flags = byte r 14;
      structure = λ (k : ℕ). shown_if (structure_given r k) (part r (image_at r k + 5) (body_size (kind_of k)));
      index = λ (k : ℕ). index_given r k;
      entry = λ (n : ℕ). shown_if (entry_given r n) (bytes_given r s n);
    }

unfoldable pub record_given : List ℕ → List ℕ → Record
record_given r s = listed (content_given r s)
