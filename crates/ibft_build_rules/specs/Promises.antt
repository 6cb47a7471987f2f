-- What the build promises. Nothing but the promises stands here.
use Rattle.std.specs.Prelude.{◌≡◌, ◌⊎◌, ◌↔◌, true, List, ℕ, ◌≤◌, ◌<◌, length, take, drop}
use Rattle.octets.specs.Octets.{byte}
use Rattle.octets.specs.Promises.{ChecksumByte}
use Rattle.table_header.specs.Header.{length_of}
use Rattle.ibft_table.specs.Check.{check_of}
use Rattle.ibft_table.specs.Record.{Record, record_of}
use Rattle.table_header.specs.Verdict.{Accepted}
use Rattle.ibft_build_rules.specs.RecordRange.{record_given}
use Rattle.ibft_build_rules.specs.Refusals.{contents_verdict}
use Rattle.ibft_build_rules.specs.Build.{answer_of, room_after}
use Rattle.ibft_build_rules.specs.ReadsBack.{ReadsBack}
use Rattle.ibft_table.specs.Order.{keeps_order}
use Rattle.ibft_table.specs.Secrets.{secrets_apart}
use Rattle.ibft_build_rules.specs.declared.Built.{Built}

-- a table that serves a record: it passes the check, reads as the record, keeps its structures in the built order, and gives
-- each secret its own bytes
pub record Serves (c : Record) (t : List ℕ) : Type 0 where
  pub passes : check_of t ≡ Accepted
  pub reads-back : record_of t ≡ c
  pub keeps-order : keeps_order t ≡ true
  pub secrets-apart : secrets_apart t ≡ true

-- an accepted build of the record c: in a room that held `before` it leaves `after`, and returns the Length n
pub record Accepts (c : Record) (before : List ℕ) (n : ℕ) (after : List ℕ) : Type 0 where
  -- the Length returned is the number at 4, and lies in the room
  pub length-is : length_of after ≡ n
  pub fits : n ≤ length before
  -- the largest Length that a build returns
  pub bound : n ≤ 13710
  -- room past Length keeps its bytes
  pub rest : drop n after ≡ drop n before
  -- what stands at 9 is the table's checksum byte, the one that the summing answers
  pub checksum-stands : ChecksumByte (take n after) 9 (byte (take n after) 9)
  -- the first Length bytes serve the record, and so does any longer part of the room
  pub serves : (m : ℕ) → n ≤ m → Serves c (take m after)
  -- and each reading call gives of it what the record holds
  pub calls : (m : ℕ) → n ≤ m → ReadsBack c (take m after)
  -- no list that serves the record has a lower Length
  pub least : (t : List ℕ) → Serves c t → n ≤ length_of t

-- want of room, where the contents are not refused and the room has n bytes
pub record Room (c : Record) (n : ℕ) (number : ℕ) : Type 0 where
  -- a table that serves the record exists
  pub exists : (t : List ℕ) × Serves c t
  -- 21 exactly where each such table's Length exceeds the room
  pub want : (number ≡ 21) ↔ ((t : List ℕ) → Serves c t → n < length_of t)
  -- accepted otherwise
  pub else-accepted : (number ≡ 21) ⊎ (number ≡ 0)

-- the build of the record range r and the strings s in a room that held `before`: what it answers, what the room holds after it
pub record Promise (r s before : List ℕ) (answer : Built) (after : List ℕ) : Type 0 where
  -- the answer and every byte of the room are the definitions'
  pub answer-is : answer ≡ answer_of r s (length before)
  pub room-is : after ≡ room_after r s before
  -- refused: Length 0, the room untouched
  pub refused : (answer.refusal.number ≡ 0 → ⊥) → (answer.length ≡ 0) × (after ≡ before)
  -- accepted: the table is right, stands alone in the room, and is the shortest
  pub accepted : answer.refusal.number ≡ 0 → Accepts (record_given r s) before answer.length after
  -- contents not refused: whatever room is lent, 21 or accepted, as the least Length says
  pub room : contents_verdict r s ≡ Accepted → Room (record_given r s) (length before) answer.refusal.number
