-- What telling and entering promise. Nothing but the promises stands here.
use Rattle.std.specs.Prelude.{◌≡◌, Bool, false, List, ℕ, ◌*◌, ◌≤◌, ◌<◌, length, take}
use Rattle.octets.specs.Octets.{byte}
use Rattle.ibft_layout.specs.Layout.{entry_count}
use Rattle.ibft_table.specs.Check.{check_of}
use Rattle.ibft_table.specs.Record.{record_of}
use Rattle.table_header.specs.Verdict.{Accepted}
use Rattle.ibft_build_rules.specs.RecordRange.{largest_size, content_given, record_given}
use Rattle.ibft_build_rules.specs.Refusals.{contents_verdict}
use Rattle.ibft_build_rules.specs.Plan.{length_built}
use Rattle.ibft_build_rules.specs.Build.{answer_of as built_answer, room_after}
use Rattle.ibft_build_rules.specs.RebuildPromises.{Clean, table_built}
use Rattle.record_text.specs.Enter.{Outcome, answer_of, entered_from}
use Rattle.record_text.specs.Tell.{table_text}

-- each is a byte
abbrev pub Bytes : List ℕ → Type 0
Bytes t = (i : ℕ) → byte t i < 256

-- the record range and the strings that a text leaves: as many bytes as `enter` answers
abbrev pub range_left : Outcome → List ℕ
range_left o = take (answer_of o).size o.draft.range

abbrev pub strings_left : Outcome → List ℕ
strings_left o = take (answer_of o).used o.draft.strings

-- the longest text that the program `enter` takes
abbrev pub longest_text : ℕ
longest_text = 65536

-- Told and entered: the text that `tell` writes of the table t, and what `enter` reads it as.
pub record ToldAndEntered (t : List ℕ) (o : Outcome) : Type 0 where
  -- the text is not too long
  pub fits : length (table_text false t) ≤ longest_text
  -- every line is read
  pub read : o.reason ≡ 0
  -- what is entered is the record of the table
  pub same : record_given (range_left o) (strings_left o) ≡ record_of t
  -- where its strings hold no zero byte a build does not refuse it, and with room enough leaves a table that reads as the same
  -- record
  pub builds : Clean t → contents_verdict (range_left o) (strings_left o) ≡ Accepted
  pub built : Clean t → (room : List ℕ) → length_built (content_given (range_left o) (strings_left o)) ≤ length room
      → ((built_answer (range_left o) (strings_left o) (length room)).refusal.number ≡ 0)
      × (record_of (room_after (range_left o) (strings_left o) room) ≡ record_of t)

-- .. of every table that the check accepts, where `enter` is lent a range and strings of which no record needs more
abbrev pub EntersWhatIsTold : Type 0
EntersWhatIsTold = (t range strings : List ℕ) → Bytes t → check_of t ≡ Accepted → largest_size ≤ length range → 255 * entry_count ≤ length strings
    → ToldAndEntered t (entered_from (table_text false t) range strings)

-- Two texts that enter the same record are told alike: the tables that are built of what they leave have the same text, secrets
-- hidden or not. (It holds of whatever two outcomes: that `enter` gave them is not needed.)
abbrev pub ToldAlike : Type 0
ToldAlike = (o o' : Outcome) (room room' : List ℕ) (hide : Bool)
    → (built_answer (range_left o) (strings_left o) (length room)).refusal.number ≡ 0
    → (built_answer (range_left o') (strings_left o') (length room')).refusal.number ≡ 0
    → record_given (range_left o) (strings_left o) ≡ record_given (range_left o') (strings_left o')
    → table_text hide (table_built (range_left o) (strings_left o) room) ≡ table_text hide (table_built (range_left o') (strings_left o') room')
