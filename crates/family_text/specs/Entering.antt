-- What the private functions of `enter` say: the definitions of `Enter`, over what is lent to them. Assumes nothing: these are
-- definitions.
use Rattle.std.specs.Prelude.{◌≡◌, ℕ, List, Result, Ok, Err}
use Rattle.family_text.specs.Enter.{Draft, Step, step_of, number_of, Outcome, Answer, numbers_of}
use Rattle.family_text.specs.declared.enter.Unread.{Unread}
use Rattle.family_text.specs.declared.enter.LineUnread.{LineUnread}

-- a draft by its parts, as they are lent
abbrev pub draft_with : List ℕ → List ℕ → Draft
draft_with image given = record { image = image; given = given }

-- a step is what the code answers and leaves; the number of a field that was read is not answered
abbrev pub IsStep : Result (Unit {0}) LineUnread → List ℕ → List ℕ → Step → Type 0
IsStep (Ok u) image given s = step_of 0 s.field (draft_with image given) ≡ s
IsStep (Err e) image given s = step_of (number_of e.reason) e.field (draft_with image given) ≡ s

-- the outcome by an answer's numbers and what the code leaves
abbrev pub outcome_by : Answer → List ℕ → List ℕ → Outcome
outcome_by a image given = record { reason = a.reason; line = a.line; field = a.field; draft = draft_with image given }

-- the outcome by what the code answers and what it leaves
abbrev pub outcome_with : Result (Unit {0}) Unread → List ℕ → List ℕ → Outcome
outcome_with r image given = outcome_by (numbers_of r) image given
