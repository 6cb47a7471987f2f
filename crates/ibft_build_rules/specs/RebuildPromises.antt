-- What reading and rebuilding promise. Nothing but the promises stands here.
use Rattle.std.specs.Prelude.{◌≡◌, ◌↔◌, false, List, ℕ, ◌≤◌, ◌<◌, length, take}
use Rattle.ibft_layout.specs.Layout.{entry_count}
use Rattle.ibft_table.specs.Check.{check_of}
use Rattle.ibft_table.specs.Record.{record_of}
use Rattle.table_header.specs.Promises.{ReturnsChecksum}
use Rattle.table_header.specs.Verdict.{Accepted}
use Rattle.ibft_build_rules.specs.RecordRange.{content_given, record_given}
use Rattle.ibft_build_rules.specs.Refusals.{contents_verdict}
use Rattle.ibft_build_rules.specs.Plan.{length_built}
use Rattle.ibft_build_rules.specs.Build.{answer_of, room_after}
use Rattle.ibft_build_rules.specs.Rebuild.{range_of, holds_zero, rebuild_answer, rebuild_room}
use Rattle.ibft_build_rules.specs.Promises.{Accepts, Room}
use Rattle.ibft_build_rules.specs.declared.Built.{Built}

-- no string of the table that is present holds a zero byte
abbrev pub Clean : List ℕ → Type 0
Clean t = (n : ℕ) → n < entry_count → holds_zero t n ≡ false

-- Read and rebuilt, with the build: what is read of an accepted table whose strings hold no zero byte is its record; a build
-- does not refuse it, and with room enough leaves a table that reads as the same record.
pub record ReadAndRebuilt (t : List ℕ) : Type 0 where
  pub reads : record_given (range_of t) t ≡ record_of t
  pub builds : contents_verdict (range_of t) t ≡ Accepted
  pub enough : length_built (content_given (range_of t) t) ≤ 13710
  pub rebuilt : (room : List ℕ) → length_built (content_given (range_of t) t) ≤ length room
      → ((answer_of (range_of t) t (length room)).refusal.number ≡ 0) × (record_of (room_after (range_of t) t room) ≡ record_of t)

abbrev pub RebuildsTheSame : Type 0
RebuildsTheSame = (t : List ℕ) → check_of t ≡ Accepted → Clean t → ReadAndRebuilt t

-- Two records that build are equal exactly where their tables are equal, byte for byte.
abbrev pub table_built : List ℕ → List ℕ → List ℕ → List ℕ
table_built r s room = take (answer_of r s (length room)).length (room_after r s room)

abbrev pub TablesTellRecords : Type 0
TablesTellRecords = (r s room r' s' room' : List ℕ)
    → (answer_of r s (length room)).refusal.number ≡ 0 → (answer_of r' s' (length room')).refusal.number ≡ 0
    → (record_given r s ≡ record_given r' s') ↔ (table_built r s room ≡ table_built r' s' room')

-- The call `rebuild`, of the table t into a room that held `before`: what it answers, what the room holds after it
pub record Rebuild (t before : List ℕ) (answer : Built) (after : List ℕ) : Type 0 where
  -- the answer and every byte of the room are the definitions'
  pub answer-is : answer ≡ rebuild_answer t (length before)
  pub room-is : after ≡ rebuild_room t before
  -- refused: Length 0, the room untouched
  pub refused : (answer.refusal.number ≡ 0 → ⊥) → (answer.length ≡ 0) × (after ≡ before)
  -- the checksum byte that it returns is that of t with 6, else 0
  pub checksum : ReturnsChecksum t answer.refusal
  -- accepted: it serves the record of t, stands alone in the room, and is the shortest
  pub accepted : answer.refusal.number ≡ 0 → Accepts (record_of t) before answer.length after
  -- a table that is accepted and holds no zero byte in a string: whatever room is lent, 21 or accepted, as the least Length
  -- says
  pub room : check_of t ≡ Accepted → Clean t → Room (record_of t) (length before) answer.refusal.number
  -- it settles: what was rebuilt, rebuilt again in any room that takes it, is the same bytes
  pub settles : answer.refusal.number ≡ 0 → (room : List ℕ) → answer.length ≤ length room
      → take answer.length (rebuild_room (take answer.length after) room) ≡ take answer.length after
