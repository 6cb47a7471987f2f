-- The check: every test in the order of RULES.md, Refusals, each with its number and place. Assumes nothing: these are
-- definitions.
use Rattle.std.specs.Prelude.{ℕ, ◌+◌, ◌*◌, ◌%◌, List, [], ◌∷◌, ◌++◌, Bool, cond, not, ◌&&◌, ◌||◌, leb, ltb, eqb}
use Rattle.std.specs.Int.Bits.{bit_and}
use Rattle.octets.specs.Counting.{any, count, gather}
use Rattle.octets.specs.Octets.{byte, word16, part, differs}
use Rattle.hostname.specs.Hostname.{is_host_name}
use Rattle.ibft_layout.specs.Layout.{Kind, control, named_count, extra_most, least_index, control_at, extensions_at, word_at, chap_at, entry_count}
use Rattle.ibft_layout.specs.Layout.{most_words, string_of}
use Rattle.table_header.specs.Verdict.{Test, refuse, first_of, Verdict}
use Rattle.table_header.specs.Header.{length_of, header_tests}
use Rattle.ibft_table.specs.Table.{control_length, control_end_of, word_count, start_at, used_at, kind_at, index_at, end_at, heap_of, alike}
use Rattle.ibft_table.specs.Table.{starts_of, field_in, size_in, offset_in, holds_in}

-- another ID, version, length or Index stands at `start` than a structure of this kind has
unfoldable pub alien : List ℕ → ℕ → Kind → ℕ → Bool
alien t start kind index =
    differs (byte t start) kind.id
    || (differs (byte t (start + 1)) kind.version
    || (differs (word16 t (start + 2)) kind.length
    || differs (byte t (start + 4)) index))

-- a flag bit is set that this kind does not name
unfoldable pub reserved_set : ℕ → Kind → Bool
reserved_set flags kind = differs (bit_and flags kind.reserved) 0

-- Control has another ID, version or Index; its Length is not even, not from 18 (no extra word) to 42 (twelve); or it ends past
-- the table
unfoldable pub alien_control : List ℕ → Bool
alien_control t =
    differs (byte t control_at) control.id
    || (differs (byte t (control_at + 1)) control.version
    || (differs (byte t (control_at + 4)) 0
    || (ltb (control_length t) control.length
    || (ltb (control.length + 2 * most_words) (control_length t)
    || (differs (control_length t % 2) 0
    || ltb (length_of t) (control_end_of t))))))

unfoldable pub control_tests : List ℕ → List Test
control_tests t =
    refuse 9 control_at (alien_control t)
    ∷ refuse 10 (control_at + 5) (reserved_set (byte t (control_at + 5)) control)
    ∷ refuse 11 extensions_at (differs (word16 t extensions_at) 0)
    ∷ []

-- the structure of word w stands at no multiple of 8, below Control's end, or its first `size` bytes are not inside Length
unfoldable pub misplaced : List ℕ → ℕ → ℕ → Bool
misplaced t w size = differs (start_at t w % 8) 0 || (ltb (start_at t w) (control_end_of t) || ltb (length_of t) (start_at t w + size))

-- a named word
unfoldable pub named_tests : List ℕ → ℕ → List Test
named_tests t w =
    refuse 12 (word_at w) (misplaced t w (kind_at t w).length)
    ∷ refuse 13 (start_at t w) (alien t (start_at t w) (kind_at t w) (index_at t w))
    ∷ []

-- v is an extra word of word w's kind and Index
unfoldable pub twin : List ℕ → ℕ → ℕ → Bool
twin t w v = alike t w v && eqb (index_at t v) (index_at t w)

-- an extra word: first its first six bytes, then what they say, then the whole structure; then 33 where an earlier word of its
-- kind has its Index, 34 where six extras of its kind come before it. (`kind_at` of an ID that is neither a NIC's nor a target's
-- is a target, so `alien` tells it.)
unfoldable pub extra_tests : List ℕ → ℕ → List Test
extra_tests t w =
    refuse 12 (word_at w) (misplaced t w 6)
    ∷ refuse 13 (start_at t w) (alien t (start_at t w) (kind_at t w) (index_at t w) || ltb (index_at t w) least_index)
    ∷ refuse 12 (word_at w) (ltb (length_of t) (end_at t w))
    ∷ refuse 33 (word_at w) (any w (twin t w))
    ∷ refuse 34 (word_at w) (leb extra_most (count w (alike t w)))
    ∷ []

-- flags and CHAP type
unfoldable pub flag_tests : List ℕ → ℕ → List Test
flag_tests t w =
    refuse 10 (start_at t w + 5) (reserved_set (byte t (start_at t w + 5)) (kind_at t w))
    ∷ refuse 19 (start_at t w + chap_at) ((kind_at t w).chap && ltb 2 (byte t (start_at t w + chap_at)))
    ∷ []

-- word w, where it is used
unfoldable pub word_tests : List ℕ → ℕ → List Test
word_tests t w = cond (used_at t w) (cond (ltb w named_count) (named_tests t w) (extra_tests t w) ++ flag_tests t w) []

-- the structures of words v and w share a byte
unfoldable pub overlap : List ℕ → ℕ → ℕ → Bool
overlap t w v = used_at t v && (used_at t w && (ltb (start_at t v) (end_at t w) && ltb (start_at t w) (end_at t v)))

-- word w's structure shares a byte with an earlier word's
unfoldable pub overlap_tests : List ℕ → ℕ → List Test
overlap_tests t w = refuse 14 (word_at w) (any w (overlap t w)) ∷ []

-- entry n of a table with these starts by slot, where it is present
unfoldable pub entry_tests : List ℕ → List ℕ → ℕ → List Test
entry_tests starts t n =
    cond (holds_in starts t n)
    (refuse 15 (field_in starts n) (ltb (offset_in starts t n) (heap_of t))
    ∷ refuse 15 (field_in starts n) (ltb (length_of t) (offset_in starts t n + size_in starts t n))
    ∷ refuse 15 (field_in starts n) (differs (size_in starts t n) 0 && eqb (offset_in starts t n) 0)
    ∷ refuse 16 (field_in starts n) (leb (length_of t) (offset_in starts t n + size_in starts t n))
    ∷ refuse 16 (field_in starts n) (differs (byte t (offset_in starts t n + size_in starts t n)) 0)
    ∷ refuse 17 (field_in starts n) (ltb (string_of n).longest (size_in starts t n))
    ∷ refuse 18 (field_in starts n) ((string_of n).host && not (is_host_name (part t (offset_in starts t n) (size_in starts t n))))
    ∷ [])
    []

-- all tests: the header (i_b_f_t, 48 bytes, Length 66), Control, word by word, then what overlaps, then entry by entry
unfoldable pub check_tests : List ℕ → List Test
check_tests t =
    header_tests 0x54464269 48 66 t
    ++ (control_tests t
    ++ (gather (word_tests t) 0 (word_count t)
    ++ (gather (overlap_tests t) 0 (word_count t) ++ gather (entry_tests (starts_of t) t) 0 entry_count)))

unfoldable pub check_of : List ℕ → Verdict
check_of t = first_of (check_tests t)
