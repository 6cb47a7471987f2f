-- What each writer leaves in its stretch, said of what it is lent: the record range and the lists of the plan. Put together
-- they are the table's bytes. Assumes nothing: these are definitions.
use Rattle.std.specs.Prelude.{List, [], ◌∷◌, ◌++◌, cond, ℕ, ◌+◌, ◌-◌, length, get_or}
use Rattle.octets.specs.Counting.{gather}
use Rattle.octets.specs.Octets.{byte, part, le16, zeros}
use Rattle.string_heap.specs.Starts.{align8}
use Rattle.table_header.specs.Header.{header_start}
use Rattle.ibft_layout.specs.Layout.{kind_of, first_entry, named_count, most_words, built_slot}
use Rattle.ibft_table.specs.Record.{body_size}
use Rattle.ibft_build_rules.specs.RecordRange.{image_at, structure_given, index_given}
use Rattle.ibft_build_rules.specs.TableBytes.{start_bytes, control_start}
use Rattle.ibft_record.specs.Limits.{extras_given}
use Rattle.ibft_build.specs.Planning.{structure_start}

-- the header of an i_b_f_t of this Length; the two OEM fields stand in the range as in the header
unfoldable pub header_with : List ℕ → ℕ → List ℕ
header_with r size = header_start 0x54464269 size ++ (part r 0 14 ++ zeros 24)

-- Control up to its words for the slots: ID, Version, Length, Index, flags, Extensions
abbrev pub control_front : ℕ → ℕ → List ℕ
control_front extras flags = control_start extras ++ (flags ∷ le16 0)

-- the word of a named slot; that of an extra slot, none where it is not in use
unfoldable pub start_word : List ℕ → ℕ → List ℕ
start_word r k = le16 (structure_start r k)

unfoldable pub extra_word_given : List ℕ → ℕ → List ℕ
extra_word_given r k = cond (structure_given r k) (start_word r k) []

unfoldable pub control_with : List ℕ → List ℕ
control_with r =
    control_front (extras_given r) (byte r 14)
    ++ (gather (start_word r) 0 named_count ++ gather (extra_word_given r) named_count most_words)

-- entry n's length, by what it would take in the heap (0 where it is missing), and its offset
unfoldable pub words_with : List ℕ → List ℕ → ℕ → List ℕ
words_with wanted offsets n = le16 (get_or wanted n 0 - 1) ++ le16 (get_or offsets n 0)

-- slot k's structure
unfoldable pub structure_with : List ℕ → List ℕ → List ℕ → ℕ → List ℕ
structure_with r wanted offsets k =
    start_bytes (kind_of k) (index_given r k)
    ++ (part r (image_at r k + 5) (body_size (kind_of k)) ++ gather (words_with wanted offsets) (first_entry k) (length (kind_of k).string_fields))

-- the gap and the structure that are j-th in the build's order, nothing where it is absent
unfoldable pub stretch_with : List ℕ → List ℕ → List ℕ → List ℕ → ℕ → List ℕ
stretch_with r ends wanted offsets j =
    cond (structure_given r (built_slot j))
    (zeros (align8 (get_or ends j 0) - get_or ends j 0) ++ structure_with r wanted offsets (built_slot j))
    []
