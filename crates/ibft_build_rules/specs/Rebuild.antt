-- Reading a table and building it again (RULES.md, Building): the record range that says what a table holds, with the table
-- itself as the range of its strings; what a rebuild answers and leaves in the room. Assumes nothing: these are definitions.
use Rattle.std.specs.Prelude.{ℕ, ◌+◌, List, [], ◌∷◌, ◌++◌, Bool, cond, ◌&&◌, length, drop, ltb, Ok, Err}
use Rattle.octets.specs.Counting.{count, tabulate, gather}
use Rattle.octets.specs.Octets.{byte, part, zeros}
use Rattle.ibft_layout.specs.Layout.{kind_of, entry_count, named_count, named_entries, most_words, extra_most, extra_targets, first_entry, entry_number}
use Rattle.table_header.specs.Verdict.{Test, refuse, first_of, refusal_of, Verdict, Accepted, Refused}
use Rattle.ibft_table.specs.Table.{starts_of, start_in, present_in, nics_in, size_in, offset_in, holds_in}
use Rattle.ibft_table.specs.Check.{check_tests}
use Rattle.ibft_table.specs.Record.{content_of}
use Rattle.ibft_build_rules.specs.Refusals.{has_zero}
use Rattle.ibft_build_rules.specs.Plan.{length_built}
use Rattle.ibft_build_rules.specs.TableBytes.{table_of}
use Rattle.ibft_build_rules.specs.declared.Built.{Built}

-- ---- the record range of a table. A structure's image is the structure as it stands: its string words hold each string's
-- length and its offset, which is its start in the range of strings, the table.

abbrev pub mark : Bool → ℕ
mark there = cond there 1 0

unfoldable pub marks_in : List ℕ → List ℕ → ℕ → ℕ → List ℕ
marks_in starts t from n = tabulate (λ (i : ℕ). mark (holds_in starts t i)) from n

unfoldable pub image_in : List ℕ → List ℕ → ℕ → List ℕ
image_in starts t k = cond (present_in starts k) (part t (start_in starts k) (kind_of k).length) (zeros (kind_of k).length)

-- an extra, where it is present: its image, then its entries' marks
unfoldable pub extra_in : List ℕ → List ℕ → ℕ → List ℕ
extra_in starts t k =
    cond (present_in starts k) (image_in starts t k ++ marks_in starts t (first_entry k) (length (kind_of k).string_fields)) []

unfoldable pub targets_in : List ℕ → ℕ
targets_in starts = count extra_most (λ (i : ℕ). present_in starts (extra_targets + i))

unfoldable pub range_in : List ℕ → List ℕ → List ℕ
range_in starts t =
    part t 10 14
    ++ (byte t 53
    ∷ (tabulate (λ (k : ℕ). mark (present_in starts k)) 0 named_count
    ++ (marks_in starts t 0 named_entries
    ++ (gather (image_in starts t) 0 named_count
    ++ (nics_in starts ∷ targets_in starts ∷ gather (extra_in starts t) named_count most_words)))))

unfoldable pub range_of : List ℕ → List ℕ
range_of t = range_in (starts_of t) t

-- ---- a rebuild: the check's refusals, then 20 for the first string with a zero byte in it (its entry), then 21

-- entry n is present and holds a zero byte
unfoldable pub zero_in : List ℕ → List ℕ → ℕ → Bool
zero_in starts t n = holds_in starts t n && has_zero (part t (offset_in starts t n) (size_in starts t n))

abbrev pub holds_zero : List ℕ → ℕ → Bool
holds_zero t n = zero_in (starts_of t) t n

unfoldable pub zero_tests : List ℕ → List ℕ → ℕ → List Test
zero_tests starts t n = refuse 20 (entry_number (nics_in starts) n) (zero_in starts t n) ∷ []

unfoldable pub rebuild_verdict : List ℕ → ℕ → Verdict
rebuild_verdict t n =
    first_of (check_tests t ++ (gather (zero_tests (starts_of t) t) 0 entry_count ++ (refuse 21 0 (ltb n (length_built (content_of t))) ∷ [])))

-- the answer: refused, Length 0
unfoldable pub rebuild_from : List ℕ → Verdict → Built
rebuild_from t (Ok u) = record { refusal = refusal_of Accepted; length = length_built (content_of t) }
rebuild_from t (Err e) = record { refusal = e; length = 0 }

unfoldable pub rebuild_answer : List ℕ → ℕ → Built
rebuild_answer t n = rebuild_from t (rebuild_verdict t n)

-- the room afterwards: the table, and past its Length the bytes as they were; refused, untouched
unfoldable pub rebuilt_from : List ℕ → List ℕ → Verdict → List ℕ
rebuilt_from t room (Ok u) = table_of (content_of t) ++ drop (length_built (content_of t)) room
rebuilt_from t room (Err e) = room

unfoldable pub rebuild_room : List ℕ → List ℕ → List ℕ
rebuild_room t room = rebuilt_from t room (rebuild_verdict t (length room))
