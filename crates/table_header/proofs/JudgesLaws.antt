-- What is promised of every check, from its verdict. Its tests are the header's and, behind them, some whose number is not 6:
-- so a refusal with 6 is that of the sum, and the tests before it have passed.
--     test_plain, reserved-plain     tests whose number is not 6: a list with one more, reserved bytes
--     plain-returns                  what their refusal returns
--     verdict-returns                what a verdict returns, from what each of its refusals would
--     check-returns                  what a check's refusal returns
--     judges                         the promise
-- Assumes nothing.
use Rattle.std.specs.Prelude.{Ok, Err}
use mathlib.Core.Path.{◌≡◌, refl, sym, ap, ◌∙◌, subst}
use mathlib.Core.Bool.{Bool, true}
use mathlib.Core.List.{List, ◌∷◌, ◌++◌}
use Prim.Native.Nat.{ℕ, zero, suc, ◌%◌, ◌≤◌}
use native.Mathlib.Omega.{arith}
use borrow.Author.Tests.{ltb-false, not-true, eqb-false}
use lib.ListN.{length, take}
use lib.Seq.{length-take-le, get_or-take}
use Rattle.octets.specs.Counting.{tabulate}
use Rattle.octets.specs.Octets.{byte, sum, checksum, differs}
use Rattle.octets.proofs.SumLaws.{checksum-byte}
use Rattle.table_header.specs.Verdict.{Test, refusal, refuse, first_of, refusal_of, refusal_with, Verdict, Refused}
use Rattle.table_header.specs.Header.{length_of, header_tests, reserved_tests}
use Rattle.table_header.specs.Promises.{WrongSum, ReturnsChecksum, Judges}
use Rattle.table_header.specs.declared.verdict.Refusal.{Refusal}
use Rattle.table_header.proofs.VerdictLaws.{accepted-not-refused, accept-none, refused-front, refused-append, Every, every-none}
use Rattle.table_header.proofs.VerdictLaws.{every-next, every_first, none-fails, first-fails}

-- a refusal whose number is not 6, and which has no checksum byte
abbrev Plain : Refusal → Type 0
Plain r = (r.number ≡ 6 → ⊥) × (r.checksum ≡ 0)

-- every test of a list gives such a one
abbrev pub AllPlain : List Test → Type 0
AllPlain tests = Every Plain tests

pub test_plain : (number place : ℕ) (fails : Bool) (ts : List Test) → (number ≡ 6 → ⊥) → AllPlain ts → AllPlain (refuse number place fails ∷ ts)
test_plain number place fails ts other p = every-next (other, refl) p

pub reserved-plain : (t : List ℕ) (at n : ℕ) → AllPlain (reserved_tests t at n)
unfolding reserved_tests tabulate
reserved-plain t at zero = every-none
reserved-plain t at (suc n) = test_plain _ _ _ _ (λ e. omega arith) (reserved-plain t (suc at) n)

module _ (t : List ℕ) where
  plain : (r : Refusal) → Plain r → ReturnsChecksum t r
  plain r p = record { with-6 = λ e. absurd (p.0 e); without-6 = λ e. p.1; small = omega (arith, p.1) }

  pub plain-returns : {tests : List Test} → AllPlain tests → (r : Refusal) → first_of tests ≡ Refused r → ReturnsChecksum t r
  plain-returns all r e = plain r (every_first all r e)

  pub verdict-returns : (v : Verdict) → ((r : Refusal) → v ≡ Refused r → ReturnsChecksum t r) → ReturnsChecksum t (refusal_of v)
  unfolding refusal_of
  verdict-returns (Ok u) h = plain (refusal 0 0) (λ e. omega arith, refl)
  verdict-returns (Err r) h = h r refl

  -- ---- the header's tests

  -- a refusal with this number and place, of a test that comes before or behind the sum's
  other_test : (number place : ℕ) → (number ≡ 6 → ⊥) → (r : Refusal) → refusal number place ≡ r → ReturnsChecksum t r
  other_test number place other r e = subst (ReturnsChecksum t) e (plain (refusal number place) (other, refl))

  -- the bytes that are summed
  abbrev summed : List ℕ
  summed = take (length_of t) t

  -- the sum's, where the table has Length bytes, ten or more
  wrong-sum : 10 ≤ length_of t → length_of t ≤ length t → differs (sum summed % 256) 0 ≡ true → WrongSum t (checksum summed 9)
  wrong-sum least whole fails =
      let right = checksum-byte summed 9 (checksum summed 9) refl in
      let long : length summed ≡ length_of t = length-take-le (length_of t) t whole in
      let same : byte summed 9 ≡ byte t 9 = get_or-take (length_of t) t 9 0 (omega arith) in
      record {
        inside = omega (arith, long);
        right = right;
        other = λ e.
            eqb-false (sum summed % 256) 0 (not-true _ fails)
            ((right.stands (omega (arith, e, same, right.small))).0 (e ∙ sym same));
      }

  sum-test : 10 ≤ length_of t → length_of t ≤ length t → differs (sum summed % 256) 0 ≡ true → (r : Refusal)
      → refusal_with 6 9 (checksum summed 9) ≡ r → ReturnsChecksum t r
  sum-test least whole fails r e =
      let sum_is_lem = wrong-sum least whole fails in
      subst (ReturnsChecksum t) e (record { with-6 = λ z. sum_is_lem; without-6 = λ z. absurd (z refl); small = sum_is_lem.right.small })

  module _ (signature least_lent least_length : ℕ) (ten : 10 ≤ least_length) where
    header-returns : (r : Refusal) → first_of (header_tests signature least_lent least_length t) ≡ Refused r → ReturnsChecksum t r
    unfolding header_tests
    header-returns r e =
        refused-front _ _ r e (λ f. other_test 3 0 (λ z. omega arith) r)
        (λ p1 e1. refused-front _ _ r e1 (λ f. other_test 4 0 (λ z. omega arith) r)
        (λ p2 e2. refused-front _ _ r e2 (λ f. other_test 5 4 (λ z. omega arith) r)
        (λ p3 e3. refused-front _ _ r e3 (λ f. other_test 5 4 (λ z. omega arith) r)
        (λ p4 e4. refused-front _ _ r e4 (λ f. sum-test (omega (arith, ltb-false (length_of t) least_length p3)) (ltb-false (length t) (length_of t) p4) f r)
        (λ p5 e5. refused-front _ _ r e5 (λ f. other_test 7 8 (λ z. omega arith) r)
        (λ p6 e6. refused-front _ _ r e6 (λ f. other_test 8 10 (λ z. omega arith) r)
        (λ p7 e7. refused-front _ _ r e7 (λ f. other_test 8 16 (λ z. omega arith) r) (λ p8 e8. accepted-not-refused accept-none e8))))))))

    -- ---- and those behind them

    module _ (rest : List Test) (all : AllPlain rest) where
      pub check-returns : (r : Refusal) → first_of (header_tests signature least_lent least_length t ++ rest) ≡ Refused r → ReturnsChecksum t r
      check-returns r e = refused-append (header_tests signature least_lent least_length t) rest r e (header-returns r) (λ ok. plain-returns all r)

      pub judges : (v : Verdict) → v ≡ first_of (header_tests signature least_lent least_length t ++ rest)
          → Judges t (header_tests signature least_lent least_length t ++ rest) (first_of (header_tests signature least_lent least_length t ++ rest)) v
      judges v e =
          let tests : List Test = header_tests signature least_lent least_length t ++ rest in
          record {
            verdict-is = e;
            returns = ap refusal_of e;
            accepted = rw e (none-fails tests);
            refused = λ r. rw e (first-fails tests r);
            checksum = verdict-returns v (λ r is. check-returns r (sym e ∙ is));
          }
