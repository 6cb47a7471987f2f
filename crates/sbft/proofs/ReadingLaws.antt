-- Laws of the readings. A refusal of the check comes first; where it accepts, each part that is present ends within Length, and
-- that is within the bytes lent.
--     behind-check              where the check accepts, the tests behind it decide
--     part-accepted             a reading of a part that returns 0 is accepted
--     part-within               a part whose reading is accepted starts within the bytes lent
--     view-stretch, view-none, view-beyond     what a view shows: of a part, of a refused one, of a number that no part has
-- Assumes nothing.
use Rattle.std.specs.Prelude.{Ok, Err}
use mathlib.Core.Path.{◌≡◌, refl, sym}
use mathlib.Core.List.{List, [], ◌++◌}
use mathlib.Core.Bool.{Bool, true, false, cond, ◌||◌}
use Prim.Native.Nat.{ℕ, zero, suc, ◌+◌, ◌≤◌, ◌<◌}
use native.Mathlib.Omega.{arith}
use borrow.Author.Tests.{ltb-false, lt-ltb, le-ltb}
use lib.ListN.{length, drop}
use lib.Dec.{ltb}
use Rattle.octets.specs.Counting.{gather, tabulate}
use Rattle.octets.specs.Octets.{byte, part, differs}
use Rattle.octets.proofs.TestLaws.{or-both}
use Rattle.scan.specs.Scan.{sbft}
use Rattle.table_header.specs.Verdict.{Test, refuse, first_of, refusal_of, shown, Verdict, Accepted}
use Rattle.table_header.specs.Header.{length_of, header_tests, reserved_tests}
use Rattle.table_header.specs.declared.verdict.Refusal.{Refusal}
use Rattle.table_header.proofs.VerdictLaws.{passes, append-accepted, append-passes, gather-passes, Every, every-none, every-next}
use Rattle.table_header.proofs.VerdictLaws.{every_append, every-gather, every-cond, every_first}
use Rattle.sbft.specs.Layout.{part_count, part_of, start_end, ib_reserved, offset_of, absent, end_of}
use Rattle.sbft.specs.Check.{outside, outside_tests, overlap_tests, ib_tests, check_tests, check_of}
use Rattle.sbft.specs.Readings.{part_verdict, part_view_of}
use Rattle.sbft.specs.Promises.{part_number}

pub behind-check : (t : List ℕ) (rest : List Test) → check_of t ≡ Accepted → first_of (check_tests t ++ rest) ≡ first_of rest
unfolding check_of
behind-check t rest e = append-accepted (check_tests t) rest e

-- ---- every refusal has a number other than 0, which an accepted call returns

abbrev Numbered : List Test → Type 0
Numbered ts = Every (λ (r : Refusal). 0 < r.number) ts

module _ (t : List ℕ) where
  reserved-numbered : (at n : ℕ) → Numbered (reserved_tests t at n)
  unfolding reserved_tests tabulate
  reserved-numbered at zero = every-none
  reserved-numbered at (suc n) = every-next {t = refuse 30 at (differs (byte t at) 0)} (omega arith) (reserved-numbered (suc at) n)

  check-numbered : Numbered (check_tests t)
  unfolding check_tests header_tests outside_tests overlap_tests ib_tests
  check-numbered =
      every_append
      (every-next (omega arith)
      (every-next (omega arith)
      (every-next (omega arith)
      (every-next (omega arith) (every-next (omega arith) (every-next (omega arith) (every-next (omega arith) (every-next (omega arith) every-none))))))))
      (every_append (reserved-numbered 24 12)
      (every_append (reserved-numbered 42 6)
      (every_append
      (every-gather (outside_tests t) part_count 0 (λ k h. every-next (omega arith) every-none))
      (every_append
      (every-gather (overlap_tests t) part_count 0 (λ k h. every-next (omega arith) every-none))
      (every-cond (absent t 2) every-none (reserved-numbered (offset_of t 2 + ib_reserved) 6))))))

  accepted-by : (k : ℕ) (v : Verdict) → part_verdict t k ≡ v → (refusal_of v).number ≡ 0 → v ≡ Accepted
  unfolding part_verdict refusal_of
  accepted-by k (Ok u) e z = refl
  accepted-by k (Err r) e z =
      absurd (omega (arith, every_first (every_append check-numbered (every-next {t = refuse 22 0 (absent t k)} (omega arith) every-none)) r e))

  pub part-accepted : (k : ℕ) → part_number t k ≡ 0 → part_verdict t k ≡ Accepted
  part-accepted k z = accepted-by k (part_verdict t k) refl z

-- ---- an accepted part

module _ (t : List ℕ) (k : ℕ) (accepted : part_verdict t k ≡ Accepted) where
  checked : first_of (check_tests t) ≡ Accepted
  unfolding part_verdict
  checked = (append-passes (check_tests t) _ accepted).0

  present : absent t k ≡ false
  unfolding part_verdict
  present = (passes _ _ (append-passes (check_tests t) _ accepted).1).0

  length-within : length_of t ≤ length t
  unfolding check_tests header_tests
  length-within =
      let header = (append-passes (header_tests sbft.signature sbft.least sbft.least t) (drop 8 (check_tests t)) checked).0 in
      ltb-false (length t) (length_of t) (passes _ _ (passes _ _ (passes _ _ (passes _ _ header).1).1).1).0

  outside-passes : first_of (gather (outside_tests t) 0 part_count) ≡ Accepted
  unfolding check_tests
  outside-passes =
      let rest = gather (overlap_tests t) 0 part_count ++ ib_tests t in
      let parts = gather (outside_tests t) 0 part_count ++ rest in
      let header = append-passes (header_tests sbft.signature sbft.least sbft.least t)
      (reserved_tests t 24 12 ++ (reserved_tests t 42 6 ++ parts)) checked in
      let reserved = append-passes (reserved_tests t 24 12) (reserved_tests t 42 6 ++ parts) header.1 in
      (append-passes (gather (outside_tests t) 0 part_count) rest (append-passes (reserved_tests t 42 6) parts reserved.1).1).0

  pub part-within : k < part_count → offset_of t k + (part_of k).size ≤ length t
  unfolding outside_tests outside end_of
  part-within h =
      let placed = (passes _ _ (gather-passes (outside_tests t) part_count 0 k outside-passes (omega arith) (omega arith))).0 in
      let inside : ltb (offset_of t k) start_end || ltb (length_of t) (end_of t k) ≡ false = rw present at placed in
      omega (arith, length-within, ltb-false (length_of t) (end_of t k) (or-both (ltb (offset_of t k) start_end) _ inside).1)

-- ---- views

module _ (t : List ℕ) (k : ℕ) where
  pub view-stretch : k < part_count → shown (part_verdict t k) (part t (offset_of t k) (part_of k).size) ≡ part_view_of t k
  unfolding part_view_of
  view-stretch h = sym (rw (lt-ltb k part_count h))

  pub view-beyond : part_count ≤ k → [] ≡ part_view_of t k
  unfolding part_view_of
  view-beyond h = sym (rw (le-ltb k part_count h))

  shown-none : (v : Verdict) (b : Bool) (bytes : List ℕ) → ((refusal_of v).number ≡ 0 → ⊥) → cond b (shown v bytes) [] ≡ []
  unfolding shown refusal_of
  shown-none (Ok u) b bytes h = absurd (h refl)
  shown-none (Err r) true bytes h = refl
  shown-none (Err r) false bytes h = refl

  pub view-none : (part_number t k ≡ 0 → ⊥) → part_view_of t k ≡ []
  unfolding part_view_of
  view-none h = shown-none (part_verdict t k) (ltb k part_count) _ h
