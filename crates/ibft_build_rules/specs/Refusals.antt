-- What a build refuses, in the order of RULES.md, Refusals, all but want of room (21). Assumes nothing: these are definitions.
use Rattle.std.specs.Prelude.{ℕ, ◌+◌, ◌-◌, List, [], ◌∷◌, ◌++◌, Bool, false, cond, not, ◌&&◌, ◌||◌, length, leb, ltb, eqb}
use Rattle.octets.specs.Counting.{any, gather}
use Rattle.octets.specs.Octets.{byte, part, differs}
use Rattle.hostname.specs.Hostname.{is_host_name}
use Rattle.ibft_layout.specs.Layout.{control, nic, target, kind_of, chap_at, slot_count, entry_count, named_count, named_entries, extra_most}
use Rattle.ibft_layout.specs.Layout.{extra_nics, least_index, string_of, slot_number, entry_number}
use Rattle.table_header.specs.Verdict.{Test, refuse, first_of, Verdict}
use Rattle.table_header.specs.Header.{padded}
use Rattle.ibft_table.specs.Check.{reserved_set}
use Rattle.ibft_build_rules.specs.RecordRange.{base_size, range_size, marks_at, nics_given, targets_given, nic_image, target_image, image_at}
use Rattle.ibft_build_rules.specs.RecordRange.{structure_given, entry_given, length_given, start_given, bytes_given}

-- a zero byte stands among the bytes
unfoldable pub has_zero : List ℕ → Bool
has_zero [] = false
has_zero (b ∷ t) = eqb b 0 || has_zero t

-- one of the n presence marks from `at` on is neither 0 nor 1
unfoldable pub bad_mark : List ℕ → ℕ → ℕ → Bool
bad_mark r at n = any n (λ (j : ℕ). ltb 1 (byte r (at + j)))

-- the range has another size, or a presence mark is neither 0 nor 1; the OEM fields
unfoldable pub range_tests : List ℕ → List Test
range_tests r =
    refuse 25 0 (differs (length r) base_size && differs (length r) (range_size r))
    ∷ refuse 25 0 (bad_mark r marks_at (named_count + named_entries))
    ∷ refuse 25 0 (any (nics_given r) (λ (i : ℕ). bad_mark r (nic_image i + nic.length) (length nic.string_fields)))
    ∷ refuse 25 0 (any (targets_given r) (λ (i : ℕ). bad_mark r (target_image r i + target.length) (length target.string_fields)))
    ∷ refuse 8 10 (not (padded (part r 0 6)))
    ∷ refuse 8 16 (not (padded (part r 6 8)))
    ∷ []

-- the i-th extra of a kind whose images start at `image` and whose first has the slot number `slot`: a seventh, an Index below
-- 2, one not above its forerunner's
unfoldable pub index_tests : List ℕ → (ℕ → ℕ) → ℕ → ℕ → List Test
index_tests r image slot i =
    refuse 34 (slot + i) (leb extra_most i)
    ∷ refuse 13 (slot + i) (ltb (byte r (image i + 4)) least_index)
    ∷ refuse 33 (slot + i) (ltb 0 i && leb (byte r (image i + 4)) (byte r (image (i - 1) + 4)))
    ∷ []

-- the extra NICs, then the extra targets
unfoldable pub extras_tests : List ℕ → List Test
extras_tests r =
    gather (index_tests r nic_image extra_nics) 0 (nics_given r)
    ++ gather (index_tests r (target_image r) (extra_nics + nics_given r)) 0 (targets_given r)

-- Control's flags
unfoldable pub flags_tests : List ℕ → List Test
flags_tests r = refuse 10 255 (reserved_set (byte r 14) control) ∷ []

-- slot k, where its structure is present: reserved flags, CHAP type above 2
unfoldable pub image_tests : List ℕ → ℕ → List Test
image_tests r k =
    cond (structure_given r k)
    (refuse 10 (slot_number (nics_given r) k) (reserved_set (byte r (image_at r k + 5)) (kind_of k))
    ∷ refuse 19 (slot_number (nics_given r) k) ((kind_of k).chap && ltb 2 (byte r (image_at r k + chap_at)))
    ∷ [])
    []

-- entry n, where it is present: past the strings range, too long, a zero byte, no host name
unfoldable pub string_tests : List ℕ → List ℕ → ℕ → List Test
string_tests r s n =
    cond (entry_given r n)
    (refuse 24 (entry_number (nics_given r) n) (ltb (length s) (start_given r n + length_given r n))
    ∷ refuse 17 (entry_number (nics_given r) n) (ltb (string_of n).longest (length_given r n))
    ∷ refuse 20 (entry_number (nics_given r) n) (has_zero (bytes_given r s n))
    ∷ refuse 18 (entry_number (nics_given r) n) ((string_of n).host && not (is_host_name (bytes_given r s n)))
    ∷ [])
    []

unfoldable pub contents_tests : List ℕ → List ℕ → List Test
contents_tests r s =
    range_tests r
    ++ (extras_tests r ++ (flags_tests r ++ (gather (image_tests r) 0 slot_count ++ gather (string_tests r s) 0 entry_count)))

-- the record's contents are refused, or not
unfoldable pub contents_verdict : List ℕ → List ℕ → Verdict
contents_verdict r s = first_of (contents_tests r s)
