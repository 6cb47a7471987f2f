-- What a build answers and what it leaves in the room. Assumes nothing: these are definitions.
use Rattle.std.specs.Prelude.{ℕ, List, [], ◌∷◌, ◌++◌, length, drop, ltb, Ok, Err}
use Rattle.table_header.specs.Verdict.{refuse, first_of, refusal_of, Verdict, Accepted, Refused}
use Rattle.ibft_build_rules.specs.RecordRange.{content_given}
use Rattle.ibft_build_rules.specs.Refusals.{contents_tests}
use Rattle.ibft_build_rules.specs.Plan.{length_built}
use Rattle.ibft_build_rules.specs.TableBytes.{table_of}
use Rattle.ibft_build_rules.specs.declared.Built.{Built}

-- the contents, then 21 where the table's Length exceeds the room of n bytes
unfoldable pub build_verdict : List ℕ → List ℕ → ℕ → Verdict
build_verdict r s n = first_of (contents_tests r s ++ (refuse 21 0 (ltb n (length_built (content_given r s))) ∷ []))

-- the answer: refused, Length 0
unfoldable pub answer_from : List ℕ → List ℕ → Verdict → Built
answer_from r s (Ok u) = record { refusal = refusal_of Accepted; length = length_built (content_given r s) }
answer_from r s (Err e) = record { refusal = e; length = 0 }

unfoldable pub answer_of : List ℕ → List ℕ → ℕ → Built
answer_of r s n = answer_from r s (build_verdict r s n)

-- the room afterwards: the table, and past its Length the bytes as they were; refused, untouched
unfoldable pub room_from : List ℕ → List ℕ → List ℕ → Verdict → List ℕ
room_from r s room (Ok u) = table_of (content_given r s) ++ drop (length_built (content_given r s)) room
room_from r s room (Err e) = room

unfoldable pub room_after : List ℕ → List ℕ → List ℕ → List ℕ
room_after r s room = room_from r s room (build_verdict r s (length room))
