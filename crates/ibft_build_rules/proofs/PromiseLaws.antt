-- The build's promises follow from its answer and its room. Where the contents are not refused they are good, the built table
-- serves them, and none that serves them is shorter; so the built table's Length decides want of room.
--     accepts-built                 good contents, in a room that the built table fits
--     room-wanting, room-enough     want of room, where it does not fit and where it does
--     promise                       the promises
-- Assumes nothing.
use mathlib.Core.Path.{◌≡◌, refl, sym, ap, ◌∙◌, subst}
use mathlib.Core.Logic.{inl, inr, ⊎_elim}
use mathlib.Core.List.{List, [], ◌++◌}
use Prim.Native.Nat.{ℕ, ◌≤◌, ◌<◌}
use native.Mathlib.Omega.{arith}
use lib.ListN.{length, drop}
use Rattle.table_header.specs.Header.{length_of}
use Rattle.table_header.specs.Verdict.{refusal, accepted, refusal_of}
use Rattle.ibft_table.specs.Record.{Content, listed}
use Rattle.table_header.specs.declared.verdict.Refusal.{Refusal}
use Rattle.table_header.proofs.VerdictLaws.{accepted-not-refused}
use Rattle.ibft_build_rules.specs.RecordRange.{content_given, record_given}
use Rattle.ibft_build_rules.specs.Plan.{length_built}
use Rattle.ibft_build_rules.specs.TableBytes.{table_of}
use Rattle.ibft_build_rules.specs.Build.{answer_from, answer_of, room_from, room_after}
use Rattle.ibft_build_rules.specs.Promises.{Serves, Accepts, Room, Promise}
use Rattle.ibft_build_rules.specs.declared.Built.{Built}
use Rattle.ibft_build_rules.proofs.GoodContent.{Good}
use Rattle.ibft_build_rules.proofs.GoodLaws.{contents-good}
use Rattle.ibft_build_rules.proofs.BoundLaws.{length-bound}
use Rattle.ibft_build_rules.proofs.BuiltLeastLaws.{least-length}
use Rattle.ibft_build_rules.proofs.OutcomeLaws.{Refuses, Wants, Builds, outcome}
use Rattle.ibft_build_rules.proofs.BytesLaws.{table-stands}
use Rattle.ibft_build_rules.proofs.BuiltLaws.{begins-append, length_back}
use Rattle.ibft_build_rules.proofs.CallsLaws.{serves-calls}
use Rattle.ibft_build_rules.proofs.ServesLaws.{serves-append, room-serves, room-length, room-rest}

-- ---- good contents

module _ (c : Content) (good : Good c) where
  least-served : (t : List ℕ) → Serves (listed c) t → length_built c ≤ length_of t
  least-served t w = least-length c good t w.passes w.reads-back w.keeps-order w.secrets-apart

  pub accepts-built : (before : List ℕ) → length_built c ≤ length before
      → Accepts (listed c) before (length_built c) (table_of c ++ drop (length_built c) before)
  accepts-built before enough = record {
    length-is = room-length c good before;
    fits = enough;
    bound = length-bound c good;
    rest = room-rest c good before;
    checksum-stands = rw (begins-append c good (drop (length_built c) before)) (table-stands c good);
    serves = room-serves c good before;
    calls = λ m h. serves-calls (listed c) _ (room-serves c good before m h);
    least = least-served;
  }

  -- the built table alone
  served : (t : List ℕ) × Serves (listed c) t
  served = (table_of c ++ [], serves-append c good [])

  served-length : length_of served.0 ≡ length_built c
  unfolding served
  served-length = length_back c good (table_of c ++ []) (begins-append c good [])

  pub room-wanting : (n : ℕ) → n < length_built c → Room (listed c) n 21
  room-wanting n short = record {
    exists = served;
    want = (λ e t w. omega (arith, least-served t w), λ all. refl);
    else-accepted = inl refl;
  }

  pub room-enough : (n : ℕ) → length_built c ≤ n → Room (listed c) n 0
  room-enough n enough = record {
    exists = served;
    want = (λ e. absurd (omega arith), λ all. absurd (omega (arith, all served.0 served.1, served-length)));
    else-accepted = inr refl;
  }

-- ---- the promises, by outcome

module _ (r s before : List ℕ) where
  refuses : (e : Refusal) → Refuses r s (length before) e → Promise r s before (record { refusal = e; length = 0 }) before
  unfolding answer_of answer_from room_after room_from
  refuses e w = record {
    answer-is = sym (ap (answer_from r s) w.verdict);
    room-is = sym (ap (room_from r s before) w.verdict);
    refused = λ h. (refl, refl);
    accepted = λ z. absurd (w.numbered z);
    room = λ ok. accepted-not-refused ok w.contents;
  }

  wants : Wants r s (length before) → Promise r s before (record { refusal = refusal 21 0; length = 0 }) before
  unfolding answer_of answer_from room_after room_from record_given
  wants w = record {
    answer-is = sym (ap (answer_from r s) w.verdict);
    room-is = sym (ap (room_from r s before) w.verdict);
    refused = λ h. (refl, refl);
    accepted = λ z. absurd (omega arith);
    room = λ ok. room-wanting (content_given r s) (contents-good r s ok) (length before) w.short;
  }

  builds : Builds r s (length before)
      → Promise r s before (record { refusal = accepted; length = length_built (content_given r s) })
      (table_of (content_given r s) ++ drop (length_built (content_given r s)) before)
  unfolding answer_of answer_from room_after room_from record_given refusal_of
  builds w = record {
    answer-is = sym (ap (answer_from r s) w.verdict);
    room-is = sym (ap (room_from r s before) w.verdict);
    refused = λ h. absurd (h refl);
    accepted = λ z. accepts-built (content_given r s) (contents-good r s w.contents) before w.enough;
    room = λ ok. room-enough (content_given r s) (contents-good r s ok) (length before) w.enough;
  }

  pub promise : (answer : Built) (after : List ℕ) → answer ≡ answer_of r s (length before) → after ≡ room_after r s before
      → Promise r s before answer after
  promise answer after p q =
      ⊎_elim (λ w. same (refuses w.0 w.1)) (⊎_elim (λ w. same (wants w)) (λ w. same (builds w))) (outcome r s (length before))
    where
      -- the answer and the room are the outcome's
      same : {a : Built} {m : List ℕ} → Promise r s before a m → Promise r s before answer after
      same {a} {m} w =
          let e : a ≡ answer = w.answer-is ∙ sym p in
          let f : m ≡ after = w.room-is ∙ sym q in
          subst (λ (x : Built). Promise r s before x after) e (subst (λ (l : List ℕ). Promise r s before a l) f w)
