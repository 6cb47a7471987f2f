-- A build has three outcomes: the contents are refused; they are not, and the table does not fit; or it is built.
--     outcome          which of the three it is
--     answer-bound     whatever the outcome, no Length above 13,710 is returned
--     answer-placed    nor a place above 255
-- Assumes nothing.
use Rattle.std.specs.Prelude.{Ok, Err}
use mathlib.Core.Path.{◌≡◌, refl, ap, ◌∙◌}
use mathlib.Core.Logic.{◌⊎◌, inl, inr, ⊎_elim}
use mathlib.Core.Bool.{Bool, true, false}
use mathlib.Core.List.{List}
use Prim.Native.Nat.{ℕ, ◌≤◌, ◌<◌}
use native.Mathlib.Omega.{arith}
use borrow.Author.Tests.{ltb-true, ltb-false}
use lib.Dec.{ltb}
use Rattle.table_header.specs.Verdict.{refusal, first_of, refusal_of, Verdict, Accepted, Refused}
use Rattle.table_header.specs.declared.verdict.Refusal.{Refusal}
use Rattle.table_header.proofs.VerdictLaws.{accept-none, accept-cons, fail-cons, append-accepted, append-refused}
use Rattle.ibft_build_rules.specs.RecordRange.{content_given}
use Rattle.ibft_build_rules.specs.Refusals.{contents_tests, contents_verdict}
use Rattle.ibft_build_rules.specs.Plan.{length_built}
use Rattle.ibft_build_rules.specs.Build.{build_verdict, answer_from, answer_of}
use Rattle.ibft_build_rules.proofs.BoundLaws.{length-bound}
use Rattle.ibft_build_rules.proofs.GoodLaws.{contents-good}
use Rattle.ibft_build_rules.proofs.NumberLaws.{contents-numbered, contents-placed}

-- the record range r and the strings s, in a room of n bytes
module _ (r s : List ℕ) (n : ℕ) where
  pub record Refuses (e : Refusal) : Type 0 where
    pub contents : contents_verdict r s ≡ Refused e
    pub numbered : e.number ≡ 0 → ⊥
    pub verdict : build_verdict r s n ≡ Refused e

  pub record Wants : Type 0 where
    pub contents : contents_verdict r s ≡ Accepted
    pub short : n < length_built (content_given r s)
    pub verdict : build_verdict r s n ≡ Refused (refusal 21 0)

  pub record Builds : Type 0 where
    pub contents : contents_verdict r s ≡ Accepted
    pub enough : length_built (content_given r s) ≤ n
    pub verdict : build_verdict r s n ≡ Accepted

  pub outcome : ((e : Refusal) × Refuses e) ⊎ (Wants ⊎ Builds)
  unfolding contents_verdict build_verdict
  outcome = go (first_of (contents_tests r s)) refl
    where
      more : first_of (contents_tests r s) ≡ Accepted → (b : Bool) → ltb n (length_built (content_given r s)) ≡ b → Wants ⊎ Builds
      more p true f = inl (record {
        contents = p;
        short = ltb-true n (length_built (content_given r s)) f;
        verdict = append-accepted (contents_tests r s) _ p ∙ fail-cons _ _ f;
      })
      more p false f = inr (record {
        contents = p;
        enough = ltb-false n (length_built (content_given r s)) f;
        verdict = append-accepted (contents_tests r s) _ p ∙ accept-cons _ _ f accept-none;
      })

      go : (v : Verdict) → first_of (contents_tests r s) ≡ v → ((e : Refusal) × Refuses e) ⊎ (Wants ⊎ Builds)
      go (Err e) p = inl (e, record { contents = p; numbered = contents-numbered r s e p; verdict = append-refused (contents_tests r s) _ e p })
      go (Ok u) p = inr (more p (ltb n (length_built (content_given r s))) refl)

  pub answer-bound : (answer_of r s n).length ≤ 13710
  unfolding answer_of answer_from
  answer-bound =
      ⊎_elim (λ w. none w.0 w.1.verdict)
      (⊎_elim (λ w. none _ w.verdict)
      (λ w. omega (arith, ap (λ (v : Verdict). (answer_from r s v).length) w.verdict, length-bound (content_given r s) (contents-good r s w.contents))))
      outcome
    where
      none : (e : Refusal) → build_verdict r s n ≡ Refused e → (answer_of r s n).length ≤ 13710
      none e v = omega (arith, ap (λ (v : Verdict). (answer_from r s v).length) v)

  pub answer-placed : (answer_of r s n).refusal.place < 256
  unfolding answer_of answer_from contents_verdict refusal_of
  answer-placed =
      ⊎_elim (λ w. placed _ w.1.verdict (contents-placed r s w.0 w.1.contents))
      (⊎_elim (λ w. placed _ w.verdict (omega arith)) (λ w. placed _ w.verdict (omega arith)))
      outcome
    where
      placed : (v : Verdict) → build_verdict r s n ≡ v → (answer_from r s v).refusal.place < 256 → (answer_of r s n).refusal.place < 256
      placed v e h = rw e h
