-- The three ways a build ends, each with the definitions' answer and room.
--     ends-refused     the contents are refused
--     ends-want        they are not, and the table exceeds the room
--     ends-built       the table is written
-- Assumes nothing.
use mathlib.Core.Path.{◌≡◌, refl, sym, ap, ◌∙◌}
use mathlib.Core.List.{List, ◌++◌}
use Prim.Native.Nat.{ℕ, ◌≤◌, ◌<◌}
use lib.ListN.{length, drop}
use borrow.Author.Tests.{lt-ltb, le-ltb}
use Rattle.table_header.specs.Verdict.{refusal, accepted, refusal_of, Verdict, Accepted, Refused}
use Rattle.table_header.specs.declared.verdict.Refusal.{Refusal}
use Rattle.table_header.proofs.VerdictLaws.{accept-none, accept-cons, fail-cons, append-accepted, append-refused}
use Rattle.ibft_build_rules.specs.RecordRange.{content_given}
use Rattle.ibft_build_rules.specs.Refusals.{contents_tests, contents_verdict}
use Rattle.ibft_build_rules.specs.Plan.{length_built}
use Rattle.ibft_build_rules.specs.TableBytes.{table_of}
use Rattle.ibft_build_rules.specs.Build.{build_verdict, answer_from, answer_of, room_from, room_after}
use Rattle.ibft_build_rules.specs.declared.Built.{Built}
use Rattle.ibft_build.specs.Planning.{Ends}

module _ (r s room : List ℕ) where
  -- the answer and the room, by the verdict
  ends : (v : Verdict) (answer : Built) (after : List ℕ) → build_verdict r s (length room) ≡ v → answer ≡ answer_from r s v → after ≡ room_from r s room v
      → Ends r s room answer after
  unfolding answer_of room_after
  ends v answer after e a b = record { answer-is = a ∙ ap (answer_from r s) (sym e); room-is = b ∙ ap (room_from r s room) (sym e) }

  pub ends-refused : (e : Refusal) → contents_verdict r s ≡ Refused e → Ends r s room (record { refusal = e; length = 0 }) room
  unfolding contents_verdict build_verdict answer_from room_from
  ends-refused e p = ends (Refused e) _ _ (append-refused (contents_tests r s) _ e p) refl refl

  module _ (p : contents_verdict r s ≡ Accepted) where
    pub ends-want : length room < length_built (content_given r s)
        → Ends r s room (record { refusal = refusal 21 0; length = 0 }) room
    unfolding contents_verdict build_verdict answer_from room_from
    ends-want h =
        ends (Refused (refusal 21 0)) _ _
        (append-accepted (contents_tests r s) _ p ∙ fail-cons _ _ (lt-ltb (length room) (length_built (content_given r s)) h)) refl refl

    pub ends-built : (n : ℕ) (after : List ℕ) → n ≡ length_built (content_given r s) → n ≤ length room
        → after ≡ table_of (content_given r s) ++ drop (length_built (content_given r s)) room
        → Ends r s room (record { refusal = accepted; length = n }) after
    unfolding contents_verdict build_verdict answer_from room_from refusal_of
    ends-built n after e h written =
        ends Accepted _ after
        (append-accepted (contents_tests r s) _ p
        ∙ accept-cons _ _ (le-ltb (length room) (length_built (content_given r s)) (rw (← e) h)) accept-none)
        (ap (λ (m : ℕ). record { refusal = accepted; length = m }) e)
        written
