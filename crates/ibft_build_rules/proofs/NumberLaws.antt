-- Every refusal of a record's contents has a number other than 0, which an accepted build returns, and a place below 256. Each
-- of their tests has, but for those of extras: there are as many as the range says, but the seventh of a kind is refused.
--     gather-early                           a loop whose list m refuses, if there is one, gives a refusal of one of the first
--                                            m + 1
--     contents-numbered, contents-placed     the contents' tests
-- Assumes nothing.
use Rattle.std.specs.Prelude.{Ok, Err}
use mathlib.Core.Path.{◌≡◌, refl, sym, ap, ◌∙◌}
use mathlib.Core.List.{List, ◌∷◌, ◌++◌}
use Prim.Native.Nat.{ℕ, zero, suc, ◌+◌, ◌≤◌, ◌<◌}
use native.Mathlib.Decide.{dec_lt}
use native.Mathlib.Omega.{arith}
use borrow.Author.Tests.{leb-false}
use Rattle.octets.specs.Counting.{gather}
use Rattle.ibft_layout.specs.Layout.{slot_count, entry_count, extra_most, extra_nics, named_entries, slot_number, entry_number}
use Rattle.table_header.specs.Verdict.{Test, first_of, Verdict, Accepted, Refused}
use Rattle.table_header.specs.declared.verdict.Refusal.{Refusal}
use Rattle.ibft_table_laws.proofs.NumberingLaws.{closed-le}
use Rattle.table_header.proofs.VerdictLaws.{Every, every-none, every-next, every_append, every-gather, every-if, every_first, passes}
use Rattle.table_header.proofs.VerdictLaws.{append-accepted, append-refused, accepted-not-refused, accept-none}
use Rattle.ibft_build_rules.specs.RecordRange.{nics_given, targets_given, nic_image, target_image, structure_given, entry_given}
use Rattle.ibft_build_rules.specs.Refusals.{range_tests, index_tests, extras_tests, flags_tests, image_tests, string_tests, contents_tests}
use Rattle.ibft_build_rules.proofs.GoodLaws.{extras-most}

-- what these tests refuse with has another number than 0
abbrev pub Numbered : List Test → Type 0
Numbered ts = (e : Refusal) → first_of ts ≡ Refused e → e.number ≡ 0 → ⊥

abbrev Told : List Test → Type 0
Told ts = Every (λ (r : Refusal). (0 < r.number) × (r.place < 256)) ts

-- The lists of the n numbers from k on. Where that of m, if m is among them, refuses, a refusal comes from m or from one before
-- it.
pub gather-early : {P : Refusal → Type 0} (f : ℕ → List Test) (m n k : ℕ) → k ≤ m → (m < k + n → first_of (f m) ≡ Accepted → ⊥)
    → ((i : ℕ) → i ≤ m → Every P (f i)) → (e : Refusal) → first_of (gather f k n) ≡ Refused e → P e
unfolding gather
gather-early f m zero k l stop each e is = accepted-not-refused accept-none is
gather-early {P} f m (suc n) k l stop each e is =
    go (λ h rest. gather-early f m n (suc k) h (λ x. stop (omega arith)) each e rest) (first_of (f k)) refl
  where
    go : (k < m → first_of (gather f (suc k) n) ≡ Refused e → P e) → (v : Verdict) → first_of (f k) ≡ v → P e
    go later (Err d) p =
        let same : Refused d ≡ Refused e = sym (append-refused (f k) (gather f (suc k) n) d p) ∙ is in
        every_first (each k l) e (p ∙ same)
    go later (Ok u) p =
        elim (dec_lt k m) [
          | yes h ↦ later h (sym (append-accepted (f k) (gather f (suc k) n) p) ∙ is)
          | no h ↦
              let z : k ≡ m = omega arith in
              absurd (stop (omega arith) (ap (λ (j : ℕ). first_of (f j)) (sym z) ∙ p))
        ]

-- one test more
told : (t : Test) (ts : List Test) → 0 < t.refusal.number → t.refusal.place < 256 → Told ts → Told (t ∷ ts)
told t ts a b p = every-next (a, b) p

module _ (r s : List ℕ) where
  -- ---- extras of one kind: the seventh, if there is one, is refused

  module _ (image : ℕ → ℕ) (slot n : ℕ) (low : slot ≤ extra_nics + extra_most) where
    index-told : (i : ℕ) → i ≤ extra_most → Told (index_tests r image slot i)
    unfolding index_tests
    index-told i h =
        told _ _ (omega arith) (omega arith) (told _ _ (omega arith) (omega arith) (told _ _ (omega arith) (omega arith) every-none))

    seventh : first_of (index_tests r image slot extra_most) ≡ Accepted → ⊥
    unfolding index_tests
    seventh ok = omega (arith, leb-false extra_most extra_most (passes _ _ ok).0)

    indices-told : (e : Refusal) → first_of (gather (index_tests r image slot) 0 n) ≡ Refused e → (0 < e.number) × (e.place < 256)
    indices-told e is =
        gather-early {P = λ (r : Refusal). (0 < r.number) × (r.place < 256)} (index_tests r image slot) extra_most n 0
        (omega arith) (λ h. seventh) index-told e is

  extras-told : (e : Refusal) → first_of (extras_tests r) ≡ Refused e → (0 < e.number) × (e.place < 256)
  unfolding extras_tests
  extras-told e is = go (first_of (gather (index_tests r nic_image extra_nics) 0 (nics_given r))) refl
    where
      go : (v : Verdict) → first_of (gather (index_tests r nic_image extra_nics) 0 (nics_given r)) ≡ v → (0 < e.number) × (e.place < 256)
      go (Err d) p =
          indices-told nic_image extra_nics (nics_given r) (omega arith) e
          (p ∙ sym (append-refused (gather (index_tests r nic_image extra_nics) 0 (nics_given r)) _ d p) ∙ is)
      go (Ok u) p =
          indices-told (target_image r) (extra_nics + nics_given r) (targets_given r) (omega (arith, extras-most r nic_image extra_nics (nics_given r) p)) e
          (sym (append-accepted (gather (index_tests r nic_image extra_nics) 0 (nics_given r)) _ p) ∙ is)

  -- ---- the rest, test by test

  image-told : (k : ℕ) → k < slot_count → Told (image_tests r k)
  unfolding image_tests
  image-told k h =
      let small : slot_number (nics_given r) k < 256 = omega (arith, closed-le extra_nics (nics_given r) k) in
      every-if (structure_given r k) (told _ _ (omega arith) small (told _ _ (omega arith) small every-none))

  string-told : (n : ℕ) → n < entry_count → Told (string_tests r s n)
  unfolding string_tests
  string-told n h =
      let small : entry_number (nics_given r) n < 256 = omega (arith, closed-le named_entries (nics_given r) n) in
      every-if (entry_given r n)
      (told _ _ (omega arith) small (told _ _ (omega arith) small (told _ _ (omega arith) small (told _ _ (omega arith) small every-none))))

  range-told : Told (range_tests r)
  unfolding range_tests
  range-told =
      told _ _ (omega arith) (omega arith)
      (told _ _ (omega arith) (omega arith)
      (told _ _ (omega arith) (omega arith)
      (told _ _ (omega arith) (omega arith) (told _ _ (omega arith) (omega arith) (told _ _ (omega arith) (omega arith) every-none)))))

  rest-told : Told (flags_tests r ++ (gather (image_tests r) 0 slot_count ++ gather (string_tests r s) 0 entry_count))
  unfolding flags_tests
  rest-told =
      every_append (told _ _ (omega arith) (omega arith) every-none)
      (every_append (every-gather (image_tests r) slot_count 0 image-told) (every-gather (string_tests r s) entry_count 0 string-told))

  contents-told : (e : Refusal) → first_of (contents_tests r s) ≡ Refused e → (0 < e.number) × (e.place < 256)
  unfolding contents_tests
  contents-told e is = front (first_of (range_tests r)) refl
    where
      rest : List Test
      rest = flags_tests r ++ (gather (image_tests r) 0 slot_count ++ gather (string_tests r s) 0 entry_count)

      back : first_of (extras_tests r ++ rest) ≡ Refused e → (v : Verdict) → first_of (extras_tests r) ≡ v → (0 < e.number) × (e.place < 256)
      back f (Err d) p = extras-told e (p ∙ sym (append-refused (extras_tests r) rest d p) ∙ f)
      back f (Ok u) p = every_first rest-told e (sym (append-accepted (extras_tests r) rest p) ∙ f)

      front : (v : Verdict) → first_of (range_tests r) ≡ v → (0 < e.number) × (e.place < 256)
      front (Err d) p = every_first range-told e (p ∙ sym (append-refused (range_tests r) (extras_tests r ++ rest) d p) ∙ is)
      front (Ok u) p = back (sym (append-accepted (range_tests r) (extras_tests r ++ rest) p) ∙ is) (first_of (extras_tests r)) refl

  pub contents-numbered : Numbered (contents_tests r s)
  contents-numbered e is z = omega (arith, (contents-told e is).0)

  pub contents-placed : (e : Refusal) → first_of (contents_tests r s) ≡ Refused e → e.place < 256
  contents-placed e is = (contents-told e is).1
