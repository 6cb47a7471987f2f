-- The places that tests refuse with lie below 2^24, so an answer to C has the bits for them.
--     test_below                       of a list with one test more
--     every-header, every-reserved     of the header's tests, and of reserved bytes that end below
--     refusal-below, verdict-below     of a verdict, where every refusal or every test has it
--     written_below                    of what a write answers
-- Assumes nothing.
use Rattle.std.specs.Prelude.{Ok, Err}
use mathlib.Core.Path.{◌≡◌, refl, sym, ◌∙◌}
use mathlib.Core.List.{List, ◌∷◌}
use Prim.Native.Nat.{ℕ, zero, suc, ◌+◌, ◌≤◌, ◌<◌, ◌^◌}
use native.Mathlib.Omega.{arith}
use Rattle.octets.specs.Counting.{tabulate}
use Rattle.table_header.specs.Verdict.{Test, first_of, refusal_of, Verdict, Refused}
use Rattle.table_header.specs.Header.{header_tests, reserved_tests}
use Rattle.table_header.specs.Write.{write_tests, written_from}
use Rattle.table_header.specs.declared.verdict.Refusal.{Refusal}
use Rattle.table_header.proofs.VerdictLaws.{Every, every-none, every-next, every_first}

-- the place fits
abbrev pub Below : Refusal → Type 0
Below r = r.place < 2 ^ 24

-- every test of a list has such a place
abbrev pub AllBelow : List Test → Type 0
AllBelow tests = Every Below tests

-- one test more
pub test_below : (x : Test) (ts : List Test) → Below x.refusal → AllBelow ts → AllBelow (x ∷ ts)
test_below x ts h p = every-next h p

pub every-header : (signature least_lent least_length : ℕ) (t : List ℕ) → AllBelow (header_tests signature least_lent least_length t)
unfolding header_tests
every-header signature least_lent least_length t =
    test_below _ _ (omega arith)
    (test_below _ _ (omega arith)
    (test_below _ _ (omega arith)
    (test_below _ _ (omega arith)
    (test_below _ _ (omega arith) (test_below _ _ (omega arith) (test_below _ _ (omega arith) (test_below _ _ (omega arith) every-none)))))))

pub every-reserved : (t : List ℕ) (at n : ℕ) → at + n ≤ 2 ^ 24 → AllBelow (reserved_tests t at n)
unfolding reserved_tests tabulate
every-reserved t at zero h = every-none
every-reserved t at (suc n) h = test_below _ _ (omega arith) (every-reserved t (suc at) n (omega arith))

-- what a verdict returns, where every refusal that it can be fits
pub refusal-below : (v : Verdict) → ((r : Refusal) → v ≡ Refused r → Below r) → Below (refusal_of v)
unfolding refusal_of
refusal-below (Ok u) h = omega arith
refusal-below (Err r) h = h r refl

pub verdict-below : (tests : List Test) → AllBelow tests → (v : Verdict) → v ≡ first_of tests → Below (refusal_of v)
verdict-below tests all v e = refusal-below v (λ r is. every_first all r (sym e ∙ is))

written_is : (long : ℕ) (v : Verdict) → (written_from long v).refusal ≡ refusal_of v
unfolding written_from refusal_of
written_is long (Ok u) = refl
written_is long (Err r) = refl

pub written_below : (oem_id oem_table_id : List ℕ) (long n : ℕ) → Below (written_from long (first_of (write_tests oem_id oem_table_id long n))).refusal
unfolding write_tests
written_below oem_id oem_table_id long n =
    rw (written_is long (first_of (write_tests oem_id oem_table_id long n)))
    (verdict-below (write_tests oem_id oem_table_id long n)
    (test_below _ _ (omega arith) (test_below _ _ (omega arith) (test_below _ _ (omega arith) every-none))) _ refl)
