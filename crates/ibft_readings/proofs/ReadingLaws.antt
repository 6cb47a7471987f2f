-- Laws of the readings. A refusal of the check comes first; where it accepts, the tests behind it decide. What an accepted
-- reading of an entry says lies within the table, since each of the check's tests has passed.
--     check-accepts, reading-accepted  the verdict of a reading, where the check accepts, and where it returns 0
--     slot-accepted, structure-hidden  a reading of a structure that returns 0 is accepted; of a refused one nothing is shown
--     start-accepted, structure-within its start is that of its slot, within the bytes lent
--     view-stretch                     an entry's view is the stretch that its reading gives, none where that is refused
--     entry-within                     this stretch starts within the bytes lent
-- Assumes nothing.
use Rattle.std.specs.Prelude.{Ok, Err}
use mathlib.Core.Path.{◌≡◌, refl, sym, ap, ◌∙◌}
use mathlib.Core.Logic.{◌⊎◌, inl, inr, ⊎_elim}
use mathlib.Core.List.{List, [], ◌∷◌, ◌++◌}
use mathlib.Core.Bool.{Bool, true, false, cond, not}
use Prim.Native.Nat.{ℕ, ◌+◌, ◌%◌, ◌≤◌, ◌<◌}
use native.Mathlib.Omega.{arith}
use native.Mathlib.Decide.{dec_lt}
use lib.ListN.{length, drop, get_or-eq_default}
use lib.Dec.{leb, ltb}
use borrow.Author.Tests.{ltb-false, eqb-true, not-false}
use Rattle.octets.specs.Counting.{gather}
use Rattle.octets.specs.Octets.{part, differs}
use Rattle.octets.proofs.CountingLaws.{clash}
use Rattle.octets.proofs.TestLaws.{or-both}
use Rattle.ibft_layout.specs.Layout.{entry_count, slot_count, named_count, ibft_signature, control_at, least_length}
use Rattle.table_header.specs.Verdict.{Test, refuse, first_of, refusal_of, shown, Verdict, Accepted}
use Rattle.table_header.specs.Header.{length_of, header_tests}
use Rattle.ibft_table.specs.Table.{control_end_of, word_count, extra_words, start_at, used_at, starts_to, starts_of, start_in, present_in, size_in, offset_in, holds_in}
use Rattle.ibft_table.specs.Check.{control_tests, misplaced, named_tests, extra_tests, flag_tests, word_tests, overlap_tests, entry_tests, check_tests, check_of}
use Rattle.ibft_readings.specs.Readings.{slot_called, slot_verdict, structure_in, structure_from, structure_got, structure_of}
use Rattle.ibft_readings.specs.Readings.{structure_view_got, structure_view_of, entry_called, entry_verdict, entry_from, entry_got, entry_of}
use Rattle.ibft_readings.specs.Readings.{view_got, view_of}
use Rattle.table_header.specs.declared.verdict.Refusal.{Refusal}
use Rattle.ibft_layout.proofs.LayoutLaws.{owner-past}
use Rattle.ibft_table.proofs.SeatLaws.{starts-length, starts-below}
use Rattle.table_header.proofs.VerdictLaws.{append-go, passes, append-passes, gather-passes, Every, every-none, every-next, every_append}
use Rattle.table_header.proofs.VerdictLaws.{every-gather, every-cond, every-if, every_first}

-- ---- the check, then the tests of what is asked for

pub check-accepts : (t : List ℕ) (asked : List Test) → check_of t ≡ Accepted → first_of (check_tests t ++ asked) ≡ first_of asked
unfolding check_of
check-accepts t asked e = sym (append-go (check_tests t) asked Accepted (sym e) refl)

-- ---- what an accepted table passes

module _ (t : List ℕ) (accepted : check_of t ≡ Accepted) where
  length-within : length_of t ≤ length t
  unfolding check_of check_tests header_tests
  length-within =
      let header = (append-passes (header_tests ibft_signature control_at least_length t) (drop 8 (check_tests t)) accepted).0 in
      ltb-false (length t) (length_of t) (passes _ _ (passes _ _ (passes _ _ (passes _ _ header).1).1).1).0

  -- the tests of all words pass, and those behind them
  words-and-rest : (first_of (gather (word_tests t) 0 (word_count t)) ≡ Accepted)
      × (first_of (gather (overlap_tests t) 0 (word_count t) ++ gather (entry_tests (starts_of t) t) 0 entry_count) ≡ Accepted)
  unfolding check_of check_tests
  words-and-rest =
      let rest = gather (overlap_tests t) 0 (word_count t) ++ gather (entry_tests (starts_of t) t) 0 entry_count in
      let words = gather (word_tests t) 0 (word_count t) in
      let behind-header = (append-passes (header_tests ibft_signature control_at least_length t) (control_tests t ++ (words ++ rest)) accepted).1 in
      append-passes words rest (append-passes (control_tests t) (words ++ rest) behind-header).1

  entries-pass : (n : ℕ) → n < entry_count → first_of (entry_tests (starts_of t) t n) ≡ Accepted
  entries-pass n h =
      let entries = (append-passes (gather (overlap_tests t) 0 (word_count t)) (gather (entry_tests (starts_of t) t) 0 entry_count) words-and-rest.1).1 in
      gather-passes (entry_tests (starts_of t) t) entry_count 0 n entries (omega arith) (omega arith)

  -- each word's structure starts within Length; a word that is not used is 0
  placed-within : (w size : ℕ) → misplaced t w size ≡ false → start_at t w ≤ length_of t
  unfolding misplaced
  placed-within w size placed =
      let above = or-both (differs (start_at t w % 8) 0) _ placed in
      let ends = ltb-false (length_of t) (start_at t w + size) (or-both (ltb (start_at t w) (control_end_of t)) _ above.1).1 in
      omega arith

  used-within : (w : ℕ) (named : Bool) → first_of (cond named (named_tests t w) (extra_tests t w)) ≡ Accepted → start_at t w ≤ length_of t
  unfolding named_tests extra_tests
  used-within w true pass = placed-within w _ (passes _ _ pass).0
  used-within w false pass = placed-within w _ (passes _ _ pass).0

  word-within : (w : ℕ) → w < word_count t → start_at t w ≤ length_of t
  unfolding word_tests used_at
  word-within w h = go (used_at t w) refl (gather-passes (word_tests t) (word_count t) 0 w words-and-rest.0 (omega arith) (omega arith))
    where
      go : (used : Bool) → used_at t w ≡ used
          → first_of (cond used (cond (ltb w named_count) (named_tests t w) (extra_tests t w) ++ flag_tests t w) []) ≡ Accepted → start_at t w ≤ length_of t
      go true is pass = used-within w (ltb w named_count) (append-passes _ (flag_tests t w) pass).0
      go false is pass = omega (arith, eqb-true (start_at t w) 0 (not-false _ is))

  -- so does each slot's
  pub start-within : (k : ℕ) → start_in (starts_of t) k ≤ length_of t
  unfolding start_in starts_of word_count
  start-within k = starts-below t (length_of t) (extra_words t) (λ w h. word-within w (omega arith)) k

  -- a present entry ends within Length
  pub entry-ends : (n : ℕ) → n < entry_count → holds_in (starts_of t) t n ≡ true → offset_in (starts_of t) t n + size_in (starts_of t) t n ≤ length_of t
  unfolding entry_tests
  entry-ends n h holds =
      let tests = rw holds at (entries-pass n h) in
      ltb-false (length_of t) (offset_in (starts_of t) t n + size_in (starts_of t) t n) (passes _ _ (passes _ _ tests).1).0

-- an entry past the last is missing
entry-none : (t : List ℕ) (n : ℕ) → entry_count ≤ n → holds_in (starts_of t) t n ≡ false
unfolding holds_in present_in start_in starts_of
entry-none t n h =
    let short : length (starts_to t (extra_words t)) ≤ slot_count = omega (arith, starts-length t (extra_words t)) in
    rw (owner-past n h, get_or-eq_default (starts_to t (extra_words t)) 0 short)

held_below : (t : List ℕ) (n : ℕ) → holds_in (starts_of t) t n ≡ true → n < entry_count
held_below t n holds =
    elim (dec_lt n entry_count) [
      | yes h ↦ h
      | no h ↦ clash holds (entry-none t n (omega arith))
    ]

-- ---- every refusal has a number other than 0, which an accepted call returns

abbrev Numbered : List Test → Type 0
Numbered ts = Every (λ (r : Refusal). 0 < r.number) ts

module _ (t : List ℕ) where
  word-numbered : (w : ℕ) → Numbered (word_tests t w)
  unfolding word_tests named_tests extra_tests flag_tests
  word-numbered w =
      every-if (used_at t w)
      (every_append
      (every-cond (ltb w named_count)
      (every-next (omega arith) (every-next (omega arith) every-none))
      (every-next (omega arith)
      (every-next (omega arith) (every-next (omega arith) (every-next (omega arith) (every-next (omega arith) every-none))))))
      (every-next (omega arith) (every-next (omega arith) every-none)))

  entry-numbered : (n : ℕ) → Numbered (entry_tests (starts_of t) t n)
  unfolding entry_tests
  entry-numbered n =
      every-if (holds_in (starts_of t) t n)
      (every-next (omega arith)
      (every-next (omega arith)
      (every-next (omega arith) (every-next (omega arith) (every-next (omega arith) (every-next (omega arith) (every-next (omega arith) every-none)))))))

  check-numbered : Numbered (check_tests t)
  unfolding check_tests header_tests control_tests overlap_tests
  check-numbered =
      every_append
      (every-next (omega arith)
      (every-next (omega arith)
      (every-next (omega arith)
      (every-next (omega arith) (every-next (omega arith) (every-next (omega arith) (every-next (omega arith) (every-next (omega arith) every-none))))))))
      (every_append
      (every-next (omega arith) (every-next (omega arith) (every-next (omega arith) every-none)))
      (every_append
      (every-gather (word_tests t) (word_count t) 0 (λ w h. word-numbered w))
      (every_append
      (every-gather (overlap_tests t) (word_count t) 0 (λ w h. every-next (omega arith) every-none))
      (every-gather (entry_tests (starts_of t) t) entry_count 0 (λ n h. entry-numbered n)))))

  -- a reading that returns 0 is accepted
  pub reading-accepted : (beyond missing : Bool) (v : Verdict) → first_of (check_tests t ++ (refuse 23 0 beyond ∷ refuse 22 0 missing ∷ [])) ≡ v
      → (refusal_of v).number ≡ 0 → v ≡ Accepted
  unfolding refusal_of
  reading-accepted beyond missing (Ok u) e zero = refl
  reading-accepted beyond missing (Err r) e zero =
      let numbered = every_append check-numbered
      (every-next {t = refuse 23 0 beyond} (omega arith) (every-next {t = refuse 22 0 missing} (omega arith) every-none)) in
      absurd (omega (arith, every_first numbered r e))

-- ---- structures

module _ (t : List ℕ) (number : ℕ) where
  abbrev slot : ℕ
  slot = slot_called (starts_of t) number

  abbrev pub slot_judged : Verdict
  slot_judged = slot_verdict (starts_of t) t number slot

  refusal-from : (v : Verdict) → (structure_from (starts_of t) t slot v).refusal ≡ refusal_of v
  unfolding structure_from refusal_of
  refusal-from (Ok u) = refl
  refusal-from (Err r) = refl

  pub slot-accepted : (structure_of t number).refusal.number ≡ 0 → slot_judged ≡ Accepted
  unfolding structure_of structure_got slot_verdict
  slot-accepted zero = reading-accepted t _ _ slot_judged refl (ap (λ (r : Refusal). r.number) (sym (refusal-from slot_judged)) ∙ zero)

  -- refused, nothing is shown
  none_from : (v : Verdict) → ((structure_from (starts_of t) t slot v).refusal.number ≡ 0 → ⊥) → structure_in (starts_of t) t v slot ≡ []
  unfolding structure_from structure_in shown refusal_of
  none_from (Ok u) h = absurd (h refl)
  none_from (Err r) h = refl

  pub structure-hidden : ((structure_of t number).refusal.number ≡ 0 → ⊥) → structure_view_of t number ≡ []
  unfolding structure_of structure_got structure_view_of structure_view_got
  structure-hidden h = none_from slot_judged h

  module _ (accepted : slot_judged ≡ Accepted) where
    pub start-accepted : (structure_of t number).start ≡ start_in (starts_of t) slot
    unfolding structure_of structure_got structure_from
    start-accepted = ap (λ (v : Verdict). (structure_from (starts_of t) t slot v).start) accepted

    pub structure-within : start_in (starts_of t) slot ≤ length t
    unfolding slot_verdict check_of
    structure-within =
        let both = append-passes (check_tests t) _ accepted in
        omega (arith, start-within t both.0 slot, length-within t both.0)

-- ---- entries

module _ (t : List ℕ) (number : ℕ) where
  abbrev called : ℕ
  called = entry_called (starts_of t) number

  abbrev verdict : Verdict
  verdict = entry_verdict (starts_of t) t number called

  stretch-from : (v : Verdict) → part t (entry_from (starts_of t) t called v).offset
      (entry_from (starts_of t) t called v).length
      ≡ shown v (part t (offset_in (starts_of t) t called) (size_in (starts_of t) t called))
  unfolding entry_from shown part
  stretch-from (Ok u) = refl
  stretch-from (Err r) = refl

  pub view-stretch : part t (entry_of t number).offset (entry_of t number).length ≡ view_of t number
  unfolding entry_of entry_got view_of view_got
  view-stretch = stretch-from verdict

  -- a refused reading gives no length
  length_from : (v : Verdict) → ((entry_from (starts_of t) t called v).refusal.number ≡ 0) ⊎ ((entry_from (starts_of t) t called v).length ≡ 0)
  unfolding entry_from refusal_of
  length_from (Ok u) = inl refl
  length_from (Err r) = inr refl

  pub refused-length : ((entry_of t number).refusal.number ≡ 0) ⊎ ((entry_of t number).length ≡ 0)
  unfolding entry_of entry_got
  refused-length = length_from verdict

  pub view-none : (entry_of t number).length ≡ 0 → view_of t number ≡ []
  unfolding part
  view-none e = sym (rw e at view-stretch)

  pub view-refused : ((entry_of t number).refusal.number ≡ 0 → ⊥) → view_of t number ≡ []
  view-refused h = view-none (⊎_elim (λ z. absurd (h z)) (λ z. z) refused-length)

  offset-from : (v : Verdict) → verdict ≡ v → (entry_from (starts_of t) t called v).offset ≤ length t
  unfolding entry_from entry_verdict check_of
  offset-from (Err r) e = omega arith
  offset-from (Ok u) e =
      let beyond = refuse 23 0 (leb entry_count number) in
      let missing = refuse 22 0 (not (holds_in (starts_of t) t called)) in
      let both = append-passes (check_tests t) (beyond ∷ missing ∷ []) e in
      let two = passes missing [] (passes beyond (missing ∷ []) both.1).1 in
      let holds = not-false (holds_in (starts_of t) t called) two.0 in
      let ends = entry-ends t both.0 called (held_below t called holds) holds in
      omega (arith, length-within t both.0)

  pub entry-within : (entry_of t number).offset ≤ length t
  unfolding entry_of entry_got
  entry-within = offset-from verdict refl
