-- How callers number slots and entries: without gaps, so that `opened` and `closed` undo each other where something is in use;
-- and an accepted table's extras fill the slots of their kind from the first on, by ascending Index, so that whatever is in use
-- has a number.
--     closed-le, closed-opened, opened-closed     the two ways
--     extra-before, extras-most, extras-are       an accepted table's extras of a kind: they fill the first slots of the kind
--     index-least, index-up                       their Indexes: 2 or above, and each above its forerunner's
--     slot-before, nics-most, nics-are            the same of extra NICs
--     targets-most, targets-are                   .. and of extra targets
--     slot-called, entry-called                   the number of a slot, of an entry, leads back to it
-- Assumes nothing.
use mathlib.Core.Path.{◌≡◌, refl, sym, ap, ◌∙◌}
use mathlib.Core.Logic.{◌⊎◌, inl, inr, ⊎_elim}
use mathlib.Core.Bool.{Bool, true, false, cond}
use mathlib.Core.List.{List}
use Prim.Native.Nat.{ℕ, zero, suc, ◌+◌, ◌-◌, ◌≤◌, ◌<◌}
use native.Mathlib.Decide.{dec_lt}
use native.Mathlib.Omega.{arith}
use borrow.Author.Tests.{lt-ltb, le-ltb, ltb-true}
use lib.Dec.{ltb}
use Rattle.octets.specs.Counting.{count}
use Rattle.octets.specs.Octets.{byte, differs}
use Rattle.octets.proofs.CountLaws.{count-le, count-prefix}
use Rattle.ibft_layout.specs.Layout.{Kind, nic, target, kind_of, owner_of, slot_count, named_count, named_entries, extra_most, extra_nics}
use Rattle.ibft_layout.specs.Layout.{extra_targets, least_index, opened, closed, slot_at, slot_number, entry_at, entry_number}
use Rattle.ibft_table.specs.Table.{extra_words, word_count, start_at, used_at, kind_at, index_at, first_slot, slot_of, starts_of, start_in, present_in}
use Rattle.ibft_table.specs.Table.{index_in, nics_in, start_of, present}
use Rattle.ibft_table.proofs.SeatLaws.{slot-least}
use Rattle.ibft_readings.specs.Computing.{computing}
use Rattle.ibft_table_laws.specs.Facts.{ExtraFacts, Facts}
use Rattle.ibft_table_laws.proofs.LayoutLaws.{nic-slot, target-slot}
use Rattle.ibft_table_laws.proofs.SeatLaws.{Extra, Before, rank, word-slot, no_gap}
use Rattle.ibft_table_laws.proofs.SlotLaws.{SlotAt, slot-at}

-- ---- numbers alone

-- a caller's number is no larger than the slot's or the entry's
pub closed-le : (first nics k : ℕ) → closed first nics k ≤ k
unfolding closed
closed-le first nics k = go (ltb k (first + extra_most))
  where
    go : (b : Bool) → cond b k (k - (extra_most - nics)) ≤ k
    go true = omega arith
    go false = omega arith

module _ (first nics : ℕ) (few : nics ≤ extra_most) where
  pub closed-opened : (number : ℕ) → closed first nics (opened first nics number) ≡ number
  unfolding opened closed
  closed-opened number =
      elim (dec_lt number (first + nics)) [
        | yes l ↦ rw (lt-ltb number (first + nics) l, lt-ltb number (first + extra_most) (omega arith))
        | no l ↦
            let far : ltb (number + (extra_most - nics)) (first + extra_most) ≡ false = le-ltb (number + (extra_most - nics)) (first + extra_most) (omega arith) in
            rw (le-ltb number (first + nics) (omega arith), far) (omega arith)
      ]

  -- what is in use: all before the NICs and the first so many of them, all behind the six
  pub opened-closed : (k : ℕ) → (k < first + nics) ⊎ (first + extra_most ≤ k) → opened first nics (closed first nics k) ≡ k
  unfolding opened closed
  opened-closed k (inl l) = rw (lt-ltb k (first + extra_most) (omega arith), lt-ltb k (first + nics) l)
  opened-closed k (inr l) =
      let far : ltb (k - (extra_most - nics)) (first + nics) ≡ false = le-ltb (k - (extra_most - nics)) (first + nics) (omega arith) in
      rw (le-ltb k (first + extra_most) l, far) (omega arith)

-- ---- of an accepted table

-- the host name of the extra NIC i
host-owner : (i : ℕ) → i < extra_most → owner_of (named_entries + i) ≡ extra_nics + i
unfolding computing
host-owner zero h = refl
host-owner (suc zero) h = refl
host-owner (suc (suc zero)) h = refl
host-owner (suc (suc (suc zero))) h = refl
host-owner (suc (suc (suc (suc zero)))) h = refl
host-owner (suc (suc (suc (suc (suc zero))))) h = refl
host-owner (suc (suc (suc (suc (suc (suc i)))))) h = absurd (omega arith)

-- the extras of a kind: where its slots start, and that all six are of the kind
pub record ExtrasOf (kind : Kind) (first : ℕ) : Type 0 where
  pub low : named_count ≤ first
  pub high : first + extra_most ≤ slot_count
  pub starts : first_slot kind ≡ first
  pub kinds : (i : ℕ) → i < extra_most → kind_of (first + i) ≡ kind

pub nic-extras : ExtrasOf nic extra_nics
unfolding first_slot
nic-extras = record { low = omega arith; high = omega arith; starts = refl; kinds = nic-slot }

pub target-extras : ExtrasOf target extra_targets
unfolding first_slot
target-extras = record { low = omega arith; high = omega arith; starts = refl; kinds = target-slot }

module _ (t : List ℕ) (f : Facts t) where
  extra : (w : ℕ) → named_count ≤ w → w < word_count t → used_at t w ≡ true → ExtraFacts t w
  extra w low h on = f.extra w low h on

  -- ---- what stands in the slot of an extra word

  module _ (w : ℕ) (x : Extra t extra w) where
    seat-start : start_of t (slot_of t w) ≡ start_at t w
    unfolding start_in starts_of word_count
    seat-start = word-slot t extra (extra_words t) w (omega arith) x x.high

    seat-present : present t (slot_of t w) ≡ true
    unfolding present_in used_at
    seat-present = ap (λ (s : ℕ). differs s 0) seat-start ∙ x.used

    seat-index : index_in (starts_of t) t (slot_of t w) ≡ index_at t w
    unfolding index_in index_at
    seat-index =
        rw (le-ltb (slot_of t w) named_count (slot-least t w), le-ltb w named_count x.low, seat-present)
        (ap (λ (s : ℕ). byte t (s + 4)) seat-start)

  -- ---- extras of one kind

  module _ (kind : Kind) (first : ℕ) (o : ExtrasOf kind first) where
    kind-rank : (w : ℕ) → kind_at t w ≡ kind → slot_of t w ≡ first + rank t extra w
    unfolding slot_of rank
    kind-rank w is = ap (λ (s : ℕ). s + rank t extra w) (ap first_slot is ∙ o.starts)

    -- the word of slot i
    record Word (i : ℕ) : Type 0 where
      word : ℕ
      is : Extra t extra word
      kind-is : kind_at t word ≡ kind
      slot : slot_of t word ≡ first + i

    word_of : (i : ℕ) → i < extra_most → present t (first + i) ≡ true → Word i
    word_of i h on = go (slot-at t f (first + i) (omega (arith, o.high)) on)
      where
        go : SlotAt t f (first + i) → Word i
        go a =
            ⊎_elim (λ n. absurd (omega (arith, n.0, o.low)))
            (λ n. record {
              word = a.word;
              is = record { low = n.0; high = a.below; used = a.used };
              kind-is = a.kind ∙ o.kinds i h;
              slot = n.1;
            }) a.whose

    -- .. and that of the slot before it, which has a lower Index
    record Forerunner (i w : ℕ) : Type 0 where
      here : Word i
      lower : index_at t here.word < index_at t w

    forerunner : (i : ℕ) (w : Word (suc i)) → Forerunner i w.word
    forerunner i w = go (no_gap t extra w.word i w.is (omega (arith, w.slot, kind-rank w.word w.kind-is)))
      where
        go : Before t extra w.word i → Forerunner i w.word
        go b =
            let same : kind_at t b.word ≡ kind = b.kind ∙ w.kind-is in
            let at : slot_of t b.word ≡ first + i = omega (arith, kind-rank b.word same, b.ranked) in
            record { here = record { word = b.word; is = b.is; kind-is = same; slot = at }; lower = b.lower }

    word-present : (i : ℕ) (w : Word i) → present t (first + i) ≡ true
    word-present i w = ap (present t) (sym w.slot) ∙ seat-present w.word w.is

    word-index : (i : ℕ) (w : Word i) → index_in (starts_of t) t (first + i) ≡ index_at t w.word
    word-index i w = ap (index_in (starts_of t) t) (sym w.slot) ∙ seat-index w.word w.is

    pub extra-before : (i : ℕ) → suc i < extra_most → present t (first + suc i) ≡ true → present t (first + i) ≡ true
    extra-before i h on = word-present i (forerunner i (word_of (suc i) h on)).here

    pub extras-most : count extra_most (λ (i : ℕ). present t (first + i)) ≤ extra_most
    extras-most = count-le extra_most (λ (i : ℕ). present t (first + i))

    pub extras-are : (i : ℕ) → i < extra_most → present t (first + i) ≡ ltb i (count extra_most (λ (i : ℕ). present t (first + i)))
    extras-are i h = count-prefix extra_most (λ (i : ℕ). present t (first + i)) extra-before i h

    pub index-least : (i : ℕ) → i < extra_most → present t (first + i) ≡ true → least_index ≤ index_in (starts_of t) t (first + i)
    index-least i h on =
        let w = word_of i h on in
        let x = w.is in
        omega (arith, word-index i w, (extra w.word x.low x.high x.used).index-least)

    pub index-up : (i : ℕ) → suc i < extra_most → present t (first + suc i) ≡ true
        → index_in (starts_of t) t (first + i) < index_in (starts_of t) t (first + suc i)
    index-up i h on =
        let w = word_of (suc i) h on in
        let v = forerunner i w in
        omega (arith, word-index i v.here, word-index (suc i) w, v.lower)

  pub slot-before : (i : ℕ) → suc i < extra_most → present t (extra_nics + suc i) ≡ true → present t (extra_nics + i) ≡ true
  slot-before i h on = extra-before nic extra_nics nic-extras i h on

  pub nics-most : nics_in (starts_of t) ≤ extra_most
  unfolding nics_in
  nics-most = extras-most nic extra_nics nic-extras

  pub nics-are : (i : ℕ) → i < extra_most → present t (extra_nics + i) ≡ ltb i (nics_in (starts_of t))
  unfolding nics_in
  nics-are i h = extras-are nic extra_nics nic-extras i h

  pub targets-most : count extra_most (λ (i : ℕ). present_in (starts_of t) (extra_targets + i)) ≤ extra_most
  targets-most = extras-most target extra_targets target-extras

  pub targets-are : (i : ℕ) → i < extra_most
      → present t (extra_targets + i) ≡ ltb i (count extra_most (λ (i : ℕ). present_in (starts_of t) (extra_targets + i)))
  targets-are i h = extras-are target extra_targets target-extras i h

  nic-below : (k : ℕ) → extra_nics ≤ k → k < extra_targets → present t k ≡ true → k < extra_nics + nics_in (starts_of t)
  nic-below k l h on =
      let i : ℕ = k - extra_nics in
      let z : k ≡ extra_nics + i = omega arith in
      let less : i < nics_in (starts_of t) = ltb-true i (nics_in (starts_of t)) (sym (nics-are i (omega arith)) ∙ ap (present t) (sym z) ∙ on) in
      omega arith

  pub slot-called : (k : ℕ) → present t k ≡ true → slot_at (nics_in (starts_of t)) (slot_number (nics_in (starts_of t)) k) ≡ k
  slot-called k on =
      opened-closed extra_nics (nics_in (starts_of t)) nics-most k
      (elim (dec_lt k extra_nics) [
        | yes l ↦ inl (omega arith)
        | no l ↦ elim (dec_lt k extra_targets) [
          | yes m ↦ inl (nic-below k (omega arith) m on)
          | no m ↦ inr (omega arith)
        ]
      ])

  pub entry-called : (n : ℕ) → present t (owner_of n) ≡ true → entry_at (nics_in (starts_of t)) (entry_number (nics_in (starts_of t)) n) ≡ n
  entry-called n on =
      opened-closed named_entries (nics_in (starts_of t)) nics-most n
      (elim (dec_lt n named_entries) [
        | yes l ↦ inl (omega arith)
        | no l ↦ elim (dec_lt n (named_entries + extra_most)) [
          | yes m ↦
              let i : ℕ = n - named_entries in
              let z : n ≡ named_entries + i = omega arith in
              let owner : owner_of n ≡ extra_nics + i = ap owner_of z ∙ host-owner i (omega arith) in
              let less = nic-below (extra_nics + i) (omega arith) (omega arith) (ap (present t) (sym owner) ∙ on) in
              inl (omega arith)
          | no m ↦ inr (omega arith)
        ]
      ])
