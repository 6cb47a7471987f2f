-- A table whose extra words are laid in slot order, as a build lays them: word w is that of the slot which callers call w. (A
-- build's table is such a table; what its words say comes from its bytes.)
--     slot-back       an extra word's slot
--     extra-back      its extra words are as the check wants them
--     start_back      the start of an extra slot in use is its word's
--     start_none      and that of any other is 0
-- Assumes nothing.
use mathlib.Core.Path.{◌≡◌, refl, sym, ap, ap₂, ◌∙◌}
use mathlib.Core.Bool.{Bool, true, false, ◌&&◌}
use mathlib.Core.List.{List}
use Prim.Native.Nat.{ℕ, ◌+◌, ◌-◌, ◌≤◌, ◌<◌}
use native.Mathlib.Decide.{dec_lt}
use native.Mathlib.Omega.{arith}
use borrow.Author.Tests.{lt-ltb, le-ltb, le-leb, lt-leb, eq-eqb}
use lib.ListN.{get_or}
use lib.Dec.{eqb, leb, ltb}
use Rattle.octets.specs.Counting.{count}
use Rattle.octets.proofs.CountLaws.{count-between}
use Rattle.octets.proofs.TestLaws.{and_no}
use Rattle.octets.proofs.CountingLaws.{clash}
use Rattle.ibft_layout.specs.Layout.{Kind, nic, target, named_count, extra_nics, extra_targets, extra_most, least_index, opened, slot_at}
use Rattle.ibft_table.specs.Table.{word_count, extra_words, start_at, used_at, kind_at, index_at, alike, first_slot, slot_of, starts_to, starts_of, start_in, start_of}
use Rattle.ibft_table_laws.specs.Facts.{ExtraFacts}
use Rattle.ibft_table_laws.proofs.SeatLaws.{slot-word, word-slot}

-- the extra words: `a` of NICs, then `b` of targets, each by ascending Index from 2 on, all used
pub record Laid (t : List ℕ) (a b : ℕ) : Type 0 where
  pub nics : a ≤ extra_most
  pub targets : b ≤ extra_most
  pub words : extra_words t ≡ a + b
  pub used : (w : ℕ) → named_count ≤ w → w < named_count + (a + b) → used_at t w ≡ true
  pub index : (w : ℕ) → named_count ≤ w → w < named_count + (a + b) → least_index ≤ index_at t w
  pub nic-kind : (w : ℕ) → named_count ≤ w → w < named_count + a → kind_at t w ≡ nic
  pub target-kind : (w : ℕ) → named_count + a ≤ w → w < named_count + (a + b) → kind_at t w ≡ target
  pub nic-up : (v w : ℕ) → named_count ≤ v → v < w → w < named_count + a → index_at t v < index_at t w
  pub target_up : (v w : ℕ) → named_count + a ≤ v → v < w → w < named_count + (a + b) → index_at t v < index_at t w

first-nic : first_slot nic ≡ extra_nics
unfolding first_slot
first-nic = refl

first-target : first_slot target ≡ extra_targets
unfolding first_slot
first-target = refl

module _ (t : List ℕ) where
  alike-true : (w v : ℕ) → named_count ≤ v → used_at t v ≡ true → (kind_at t v).id ≡ (kind_at t w).id → alike t w v ≡ true
  unfolding alike
  alike-true w v low on id = rw (le-leb named_count v low, on) (eq-eqb (kind_at t v).id (kind_at t w).id id)

  alike-named : (w v : ℕ) → v < named_count → alike t w v ≡ false
  unfolding alike
  alike-named w v l = rw (lt-leb named_count v l)

  alike-other : (w v x y : ℕ) → (kind_at t v).id ≡ x → (kind_at t w).id ≡ y → eqb x y ≡ false → alike t w v ≡ false
  unfolding alike
  alike-other w v x y ev ew no-match =
      and_no (leb named_count v) _ (λ z. and_no (used_at t v) _ (λ q. ap₂ eqb ev ew ∙ no-match))

module _ (t : List ℕ) (a b : ℕ) (laid : Laid t a b) where
  id-nic : (w : ℕ) → named_count ≤ w → w < named_count + a → (kind_at t w).id ≡ 3
  id-nic w l h = ap (λ (k : Kind). k.id) (laid.nic-kind w l h)

  id-target : (w : ℕ) → named_count + a ≤ w → w < named_count + (a + b) → (kind_at t w).id ≡ 4
  id-target w l h = ap (λ (k : Kind). k.id) (laid.target-kind w l h)

  lower : ℕ → ℕ → Bool
  lower w v = alike t w v && ltb (index_at t v) (index_at t w)

  count-nic : (w : ℕ) → named_count ≤ w → w < named_count + a → count (word_count t) (lower w) ≡ w - named_count
  unfolding lower word_count
  count-nic w l h =
      let words = laid.words in
      count-between (named_count + extra_words t) (lower w) named_count w l (omega arith)
      (λ v x y.
      let yes-kind = alike-true t w v x (laid.used v x (omega arith)) (id-nic v x (omega arith) ∙ sym (id-nic w l h)) in
      let yes-index = lt-ltb (index_at t v) (index_at t w) (laid.nic-up v w x y h) in
      ap₂ ◌&&◌ yes-kind yes-index)
      (λ v x. ap (λ (q : Bool). q && ltb (index_at t v) (index_at t w)) (alike-named t w v x))
      (λ v x y. elim (dec_lt v (named_count + a)) [
        | yes m ↦ and_no (alike t w v) _ (λ z. elim (dec_lt w v) [
          | yes q ↦ le-ltb (index_at t v) (index_at t w) (omega (arith, laid.nic-up w v l q m))
          | no q ↦ let e : v ≡ w = omega arith in le-ltb (index_at t v) (index_at t w) (omega (arith, ap (index_at t) e))
        ])
        | no m ↦ ap (λ (q : Bool). q && ltb (index_at t v) (index_at t w)) (alike-other t w v 4 3 (id-target v (omega arith) (omega arith)) (id-nic w l h) refl)
      ])

  count-target : (w : ℕ) → named_count + a ≤ w → w < named_count + (a + b) → count (word_count t) (lower w) ≡ w - (named_count + a)
  unfolding lower word_count
  count-target w l h =
      let words = laid.words in
      count-between (named_count + extra_words t) (lower w) (named_count + a) w l (omega arith)
      (λ v x y.
      let yes-kind = alike-true t w v (omega arith) (laid.used v (omega arith) (omega arith)) (id-target v x (omega arith) ∙ sym (id-target w l h)) in
      let yes-index = lt-ltb (index_at t v) (index_at t w) (laid.target_up v w x y h) in
      ap₂ ◌&&◌ yes-kind yes-index)
      (λ v x. elim (dec_lt v named_count) [
        | yes m ↦ ap (λ (q : Bool). q && ltb (index_at t v) (index_at t w)) (alike-named t w v m)
        | no m ↦ ap (λ (q : Bool). q && ltb (index_at t v) (index_at t w)) (alike-other t w v 3 4 (id-nic v (omega arith) x) (id-target w l h) refl)
      ])
      (λ v x y. and_no (alike t w v) _ (λ z. elim (dec_lt w v) [
        | yes q ↦ le-ltb (index_at t v) (index_at t w) (omega (arith, laid.target_up w v l q (omega arith)))
        | no q ↦ let e : v ≡ w = omega arith in le-ltb (index_at t v) (index_at t w) (omega (arith, ap (index_at t) e))
      ]))

  pub slot-back : (w : ℕ) → named_count ≤ w → w < named_count + (a + b) → slot_of t w ≡ slot_at a w
  unfolding slot_of opened lower
  slot-back w l h =
      elim (dec_lt w (named_count + a)) [
        | yes m ↦ rw (lt-ltb w (extra_nics + a) m) (omega (arith, ap first_slot (laid.nic-kind w l m), first-nic, count-nic w l m))
        | no m ↦
            let nics = laid.nics in
            rw (le-ltb w (extra_nics + a) (omega arith))
            (omega (arith, ap first_slot (laid.target-kind w (omega arith) h), first-target, count-target w (omega arith) h))
      ]

  -- ---- its extra words are as the check wants them

  own-index : (v w : ℕ) → named_count ≤ w → w < named_count + (a + b) → v < w → alike t w v ≡ true → index_at t v < index_at t w
  own-index v w l h less same =
      elim (dec_lt v named_count) [
        | yes m ↦ clash same (alike-named t w v m)
        | no m ↦ elim (dec_lt w (named_count + a)) [
          | yes q ↦ laid.nic-up v w (omega arith) less q
          | no q ↦ elim (dec_lt v (named_count + a)) [
            | yes r ↦ clash same (alike-other t w v 3 4 (id-nic v (omega arith) r) (id-target w (omega arith) h) refl)
            | no r ↦ laid.target_up v w (omega arith) less h
          ]
        ]
      ]

  few-nic : (w : ℕ) → named_count ≤ w → w < named_count + a → count w (alike t w) ≡ w - named_count
  few-nic w l h =
      count-between w (alike t w) named_count w l (omega arith)
      (λ v x y. alike-true t w v x (laid.used v x (omega arith)) (id-nic v x (omega arith) ∙ sym (id-nic w l h)))
      (λ v x. alike-named t w v x)
      (λ v x y. absurd (omega arith))

  few-target : (w : ℕ) → named_count + a ≤ w → w < named_count + (a + b) → count w (alike t w) ≡ w - (named_count + a)
  few-target w l h =
      count-between w (alike t w) (named_count + a) w l (omega arith)
      (λ v x y. alike-true t w v (omega arith) (laid.used v (omega arith) (omega arith)) (id-target v x (omega arith) ∙ sym (id-target w l h)))
      (λ v x. elim (dec_lt v named_count) [
        | yes m ↦ alike-named t w v m
        | no m ↦ alike-other t w v 3 4 (id-nic v (omega arith) x) (id-target w l h) refl
      ])
      (λ v x y. absurd (omega arith))

  few : (w : ℕ) → named_count ≤ w → w < named_count + (a + b) → count w (alike t w) < extra_most
  few w l h =
      let nics = laid.nics in
      let targets = laid.targets in
      elim (dec_lt w (named_count + a)) [
        | yes m ↦ omega (arith, few-nic w l m)
        | no m ↦ omega (arith, few-target w (omega arith) h)
      ]

  within : (w : ℕ) → w < word_count t → w < named_count + (a + b)
  unfolding word_count
  within w h = omega (arith, laid.words)

  pub extra-back : (w : ℕ) → named_count ≤ w → w < word_count t → used_at t w ≡ true → ExtraFacts t w
  extra-back w l h on =
      let inside = within w h in
      record {
        index-least = laid.index w l inside;
        own-index = λ v less same e. omega (arith, own-index v w l inside less same);
        few = few w l inside;
      }

  -- ---- the starts

  pub start_back : (w : ℕ) → named_count ≤ w → w < named_count + (a + b) → start_of t (slot_at a w) ≡ start_at t w
  unfolding start_in starts_of word_count
  start_back w l h =
      let words = laid.words in
      ap (λ (k : ℕ). get_or (starts_to t (extra_words t)) k 0) (sym (slot-back w l h))
      ∙ word-slot t extra-back (extra_words t) w (omega arith) (record { low = l; high = omega arith; used = laid.used w l h }) (omega arith)

  pub start_none : (k : ℕ) → named_count ≤ k → ((w : ℕ) → named_count ≤ w → w < named_count + (a + b) → slot_at a w ≡ k → ⊥) → start_of t k ≡ 0
  unfolding start_in starts_of
  start_none k l out =
      elim (dec_lt 0 (start_of t k)) [
        | yes m ↦
            let words = laid.words in
            let w = slot-word t (extra_words t) k l (λ z. omega arith) in
            let high = w.high in
            absurd (out w.word w.low (omega arith) (sym (slot-back w.word w.low (omega arith)) ∙ w.seat))
        | no m ↦ omega arith
      ]
