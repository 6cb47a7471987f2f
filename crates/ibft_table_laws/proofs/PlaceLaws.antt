-- What every test of the check refuses with, the first that fails does: a number other than 0, which an accepted check returns,
-- and, of bytes, a place below a limit. A start is a word of two bytes, and a field lies within a structure: places stay below
-- 2^24 with much to spare.
--     check-numbered     the number of a refusal
--     place-below        its place
-- Assumes nothing.
use mathlib.Core.Path.{◌≡◌}
use mathlib.Core.List.{List, ◌∷◌}
use Prim.Native.Nat.{ℕ, ◌+◌, ◌*◌, ◌≤◌, ◌<◌, ◌^◌}
use native.Mathlib.Decide.{dec_lt}
use native.Mathlib.Omega.{arith}
use lib.Dec.{ltb}
use lib.ListN.{get_or}
use Rattle.octets.specs.Octets.{byte}
use Rattle.ibft_layout.specs.Layout.{slot_count, entry_count, named_count, owner_of, ibft_signature, control_at, least_length}
use Rattle.table_header.specs.Verdict.{Test, Refused}
use Rattle.ibft_table.specs.Table.{word_count, extra_words, start_at, used_at, starts_of, start_in, field_in, starts_to, start_of, holds_entry, field_of}
use Rattle.table_header.specs.Header.{header_tests}
use Rattle.ibft_table.specs.Check.{control_tests, named_tests, extra_tests, flag_tests, word_tests, overlap_tests, entry_tests, check_tests, check_of}
use Rattle.table_header.specs.declared.verdict.Refusal.{Refusal}
use Rattle.table_header.proofs.VerdictLaws.{Every, every-none, every-next, every_append, every-gather, every-cond, every-if, every_first}
use Rattle.ibft_table_laws.proofs.LayoutLaws.{slot-fits, entry-fits, entry-inside}
use Rattle.ibft_table.proofs.SeatLaws.{named-at}
use Rattle.ibft_table_laws.proofs.SeatLaws.{slot-word}

module _ (t : List ℕ) where
  -- all are bytes
  abbrev Bytes : Type 0
  Bytes = (i : ℕ) → byte t i < 256

  -- every test has a number, and a place below the limit
  abbrev Told : List Test → Type 0
  Told ts = Every (λ (r : Refusal). (0 < r.number) × (Bytes → r.place < 2 ^ 24)) ts

  -- one test more
  told : (x : Test) (ts : List Test) → 0 < x.refusal.number → (Bytes → x.refusal.place < 2 ^ 24) → Told ts → Told (x ∷ ts)
  told x ts number place p = every-next (number, place) p

  word_below : Bytes → (w : ℕ) → start_at t w < 65536
  unfolding start_at
  word_below bytes w = omega (arith, bytes (56 + 2 * w), bytes (56 + 2 * w + 1))

  -- a slot's start is 0 or its word's
  start-below : Bytes → (k : ℕ) → start_of t k < 65536
  unfolding start_in starts_of
  start-below bytes k =
      elim (dec_lt k named_count) [
        | yes l ↦ omega (arith, named-at t (extra_words t) k l, word_below bytes k)
        | no l ↦ elim (dec_lt 0 (get_or (starts_to t (extra_words t)) k 0)) [
          | yes m ↦
              let w = slot-word t (extra_words t) k (omega arith) (λ z. omega arith) in
              omega (arith, w.start, word_below bytes w.word)
          | no m ↦ omega arith
        ]
      ]

  field_below : Bytes → (n : ℕ) → n < entry_count → field_of t n < 2 ^ 24
  unfolding field_in
  field_below bytes n h = omega (arith, start-below bytes (owner_of n), entry-inside n h, (slot-fits (owner_of n) (entry-fits n h).owner).short)

  words-few : word_count t ≤ slot_count
  unfolding word_count extra_words
  words-few = omega arith

  header-told : Told (header_tests ibft_signature control_at least_length t)
  unfolding header_tests
  header-told = told _ _ (omega arith) (λ b. omega arith)
      (told _ _ (omega arith) (λ b. omega arith)
      (told _ _ (omega arith) (λ b. omega arith)
      (told _ _ (omega arith) (λ b. omega arith)
      (told _ _ (omega arith) (λ b. omega arith)
      (told _ _ (omega arith) (λ b. omega arith)
      (told _ _ (omega arith) (λ b. omega arith) (told _ _ (omega arith) (λ b. omega arith) every-none)))))))

  control-told : Told (control_tests t)
  unfolding control_tests
  control-told = told _ _ (omega arith) (λ b. omega arith) (told _ _ (omega arith) (λ b. omega arith) (told _ _ (omega arith) (λ b. omega arith) every-none))

  -- the places of word w are its own, and in its structure
  word-told : (w : ℕ) → w < word_count t → Told (word_tests t w)
  unfolding word_tests named_tests extra_tests flag_tests
  word-told w h =
      let own : Bytes → 56 + 2 * w < 2 ^ 24 = λ b. omega (arith, words-few) in
      let start : Bytes → start_at t w < 2 ^ 24 = λ b. omega (arith, word_below b w) in
      every-if (used_at t w)
      (every_append
      (every-cond (ltb w named_count)
      (told _ _ (omega arith) own (told _ _ (omega arith) start every-none))
      (told _ _ (omega arith) own
      (told _ _ (omega arith) start
      (told _ _ (omega arith) own (told _ _ (omega arith) own (told _ _ (omega arith) own every-none))))))
      (told _ _ (omega arith) (λ b. omega (arith, word_below b w)) (told _ _ (omega arith) (λ b. omega (arith, word_below b w)) every-none)))

  overlap-told : (w : ℕ) → w < word_count t → Told (overlap_tests t w)
  unfolding overlap_tests
  overlap-told w h = told _ _ (omega arith) (λ b. omega (arith, words-few)) every-none

  entry-told : (n : ℕ) → n < entry_count → Told (entry_tests (starts_of t) t n)
  unfolding entry_tests
  entry-told n h =
      let f : Bytes → field_of t n < 2 ^ 24 = λ b. field_below b n h in
      every-if (holds_entry t n)
      (told _ _ (omega arith) f (told _ _ (omega arith) f
      (told _ _ (omega arith) f (told _ _ (omega arith) f
      (told _ _ (omega arith) f (told _ _ (omega arith) f (told _ _ (omega arith) f every-none)))))))

  tests-told : Told (check_tests t)
  unfolding check_tests
  tests-told =
      every_append header-told
      (every_append control-told
      (every_append
      (every-gather (word_tests t) (word_count t) 0 (λ w h. word-told w (omega arith)))
      (every_append
      (every-gather (overlap_tests t) (word_count t) 0 (λ w h. overlap-told w (omega arith)))
      (every-gather (entry_tests (starts_of t) t) entry_count 0 (λ n h. entry-told n (omega arith))))))

  pub check-numbered : (r : Refusal) → check_of t ≡ Refused r → r.number ≡ 0 → ⊥
  unfolding check_of
  check-numbered r e z = omega (arith, (every_first tests-told r e).0)

  pub place-below : ((i : ℕ) → byte t i < 256) → (r : Refusal) → check_of t ≡ Refused r → r.place < 2 ^ 24
  unfolding check_of
  place-below bytes r e = (every_first tests-told r e).1 bytes
