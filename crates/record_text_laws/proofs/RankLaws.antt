-- The NICs of an accepted table by rank, and so its targets: first the two named slots, whose Indexes are 0 and 1, whether they
-- are in use or not, then the extras. Their Indexes go up.
--     KindSlots, kind-slots       the slots of a kind by rank
--     rank_up, rank-small, held-most      the Indexes by rank; there are at most eight
--     rank-present                an extra that has a rank is present
--     slot-rank                   and every NIC and target that is present has a rank
-- Assumes nothing.
use mathlib.Core.Path.{◌≡◌, refl, sym, ap, ◌∙◌}
use mathlib.Core.List.{List}
use mathlib.Core.Bool.{Bool, true, false, cond, not, ◌&&◌, ◌||◌}
use Prim.Native.Nat.{ℕ, suc, ◌+◌, ◌-◌, ◌≤◌, ◌<◌}
use native.Mathlib.Decide.{dec_lt}
use native.Mathlib.Omega.{arith}
use borrow.Author.Tests.{eqb-true, ltb-true, lt-ltb, ne_eqb}
use lib.Dec.{eqb, ltb}
use Rattle.octets.specs.Counting.{first, any, count}
use Rattle.octets.proofs.CountingLaws.{any-first, each_holds}
use Rattle.octets.proofs.TestLaws.{and_both}
use Rattle.ibft_layout.specs.Layout.{Kind, nic, target, slot_count, named_count, extra_most, least_index, extra_nics, extra_targets, kind_of}
use Rattle.ibft_layout.specs.Layout.{index_of, nic_slot, target_slot}
use Rattle.ibft_table.specs.Table.{starts_of, index_in, present}
use Rattle.ibft_table.specs.Check.{check_of}
use Rattle.table_header.specs.Verdict.{Accepted}
use Rattle.ibft_table_laws.specs.Facts.{Facts}
use Rattle.ibft_table_laws.proofs.AcceptedLaws.{accepted-facts}
use Rattle.ibft_table_laws.proofs.NumberingLaws.{ExtrasOf, nic-extras, target-extras, extras-most, extras-are, index-least, index-up}
use Rattle.record_text.specs.Fields.{first_indexed, kind_count}
use Rattle.record_text.specs.Enter.{most_of, index_count}
use Rattle.record_text.specs.Promises.{Bytes}
use Rattle.record_text_laws.proofs.LineBackLaws.{index-small}

-- ---- the slots of a kind

-- slot q of kind 3, NICs, or 4, targets; the first of its extras
unfoldable pub slot_by : ℕ → ℕ → ℕ
slot_by kind q = cond (eqb kind nic.id) (nic_slot q) (target_slot q)

unfoldable pub first_by : ℕ → ℕ
first_by kind = cond (eqb kind nic.id) extra_nics extra_targets

pub record KindSlots (kind : ℕ) : Type 0 where
  pub layout : Kind
  pub id : layout.id ≡ kind
  pub extras : ExtrasOf layout (first_by kind)
  pub behind : (i : ℕ) → i < extra_most → slot_by kind (least_index + i) ≡ first_by kind + i
  pub low : (q : ℕ) → q < least_index → slot_by kind q < named_count
  pub named : (q : ℕ) → q < least_index → index_of (slot_by kind q) ≡ q

behind_good : ℕ → ℕ → Bool
behind_good kind i = eqb (slot_by kind (least_index + i)) (first_by kind + i)

named_good : ℕ → ℕ → Bool
named_good kind q = ltb (slot_by kind q) named_count && eqb (index_of (slot_by kind q)) q

good-slots : (kind : ℕ) (layout : Kind) → layout.id ≡ kind → ExtrasOf layout (first_by kind) → any extra_most (λ (i : ℕ). not (behind_good kind i)) ≡ false
    → any least_index (λ (q : ℕ). not (named_good kind q)) ≡ false → KindSlots kind
unfolding behind_good named_good
good-slots kind layout id extras behind named =
    let both : (q : ℕ) → q < least_index → (ltb (slot_by kind q) named_count ≡ true) × (eqb (index_of (slot_by kind q)) q ≡ true)
    = λ q h. and_both (ltb (slot_by kind q) named_count) _ (each_holds least_index (named_good kind) named q h) in
    record {
      layout = layout;
      id = id;
      extras = extras;
      behind = λ i h. eqb-true (slot_by kind (least_index + i)) (first_by kind + i) (each_holds extra_most (behind_good kind) behind i h);
      low = λ q h. ltb-true (slot_by kind q) named_count (both q h).0;
      named = λ q h. eqb-true (index_of (slot_by kind q)) q (both q h).1;
    }

pub kind-slots : (kind : ℕ) → first_indexed ≤ kind → kind < kind_count → KindSlots kind
unfolding any first behind_good named_good slot_by first_by nic_slot target_slot index_of
kind-slots kind low high =
    elim (dec_lt kind 4) [
      | yes h ↦ let is : kind ≡ 3 = omega arith in rw is (good-slots 3 nic refl nic-extras refl refl)
      | no h ↦ let is : kind ≡ 4 = omega arith in rw is (good-slots 4 target refl target-extras refl refl)
    ]

-- every slot but the initiator's is one of its kind's
slot_ranked : ℕ → Bool
slot_ranked k = eqb k 0 || any most_of (λ (q : ℕ). eqb (slot_by (kind_of k).id q) k)

slots-ranked : any slot_count (λ (k : ℕ). not (slot_ranked k)) ≡ false
unfolding slot_ranked any first slot_by kind_of nic_slot target_slot
slots-ranked = refl

-- ---- of an accepted table

module _ (t : List ℕ) where
  -- the Index of rank q of a kind, and how many ranks there are
  abbrev pub index_by : ℕ → ℕ → ℕ
  index_by kind q = index_in (starts_of t) t (slot_by kind q)

  abbrev pub held_by : ℕ → ℕ
  held_by kind = least_index + count extra_most (λ (i : ℕ). present t (first_by kind + i))

  pub record Rank (kind k : ℕ) : Type 0 where
    pub rank : ℕ
    pub below : rank < held_by kind
    pub slot : slot_by kind rank ≡ k

  module _ (ok : check_of t ≡ Accepted) where
    f : Facts t
    f = accepted-facts t ok

    module _ (kind : ℕ) (s : KindSlots kind) where
      pub held-most : held_by kind ≤ most_of
      held-most = omega (arith, extras-most t f s.layout (first_by kind) s.extras)

      pub rank-named : (q : ℕ) → q < least_index → index_by kind q ≡ q
      unfolding index_in
      rank-named q h = rw (lt-ltb (slot_by kind q) named_count (s.low q h)) (s.named q h)

      -- the extra of rank 2 + i
      extra-on : (i : ℕ) → least_index + i < held_by kind → present t (first_by kind + i) ≡ true
      extra-on i h =
          let few = held-most in
          let is = extras-are t f s.layout (first_by kind) s.extras i (omega arith) in
          is ∙ lt-ltb i (count extra_most (λ (i : ℕ). present t (first_by kind + i))) (omega arith)

      extra-index : (i : ℕ) → least_index + i < held_by kind → index_by kind (least_index + i) ≡ index_in (starts_of t) t (first_by kind + i)
      extra-index i h = let few = held-most in ap (index_in (starts_of t) t) (s.behind i (omega arith))

      pub rank-present : (i : ℕ) → least_index + i < held_by kind → (present t (slot_by kind (least_index + i)) ≡ true)
      rank-present i h = let few = held-most in ap (present t) (s.behind i (omega arith)) ∙ extra-on i h

      pub rank_up : (q : ℕ) → suc q < held_by kind → index_by kind q < index_by kind (suc q)
      rank_up q h =
          elim (dec_lt q 1) [
            | yes l ↦ omega (arith, rank-named q (omega arith), rank-named (suc q) (omega arith))
            | no l ↦
                elim (dec_lt q least_index) [
                  | yes m ↦
                      let next : suc q ≡ least_index + 0 = omega arith in
                      let high : least_index + 0 < held_by kind = rw next at h in
                      let least = index-least t f s.layout (first_by kind) s.extras 0 (omega arith) (extra-on 0 high) in
                      omega (arith, rank-named q m, ap (index_by kind) next, extra-index 0 high, least)
                  | no m ↦
                      let i : ℕ = q - least_index in
                      let here : q ≡ least_index + i = omega arith in
                      let next : suc q ≡ least_index + suc i = omega arith in
                      let few = held-most in
                      let last : least_index + suc i < held_by kind = rw next at h in
                      let more = index-up t f s.layout (first_by kind) s.extras i (omega arith) (extra-on (suc i) last) in
                      omega (arith, ap (index_by kind) here, ap (index_by kind) next, extra-index i (omega arith), extra-index (suc i) last, more)
                ]
          ]

    pub slot-rank : (k : ℕ) → k < slot_count → first_indexed ≤ (kind_of k).id → KindSlots (kind_of k).id → present t k ≡ true → Rank (kind_of k).id k
    unfolding slot_ranked kind_of
    slot-rank k h low s on =
        let kind = (kind_of k).id in
        let other : k ≡ 0 → ⊥ = λ e. omega (arith, low, ap (λ (j : ℕ). (kind_of j).id) e) in
        let all = rw (ne_eqb k 0 other) at (each_holds slot_count slot_ranked slots-ranked k h) in
        let found = any-first most_of (λ (q : ℕ). eqb (slot_by kind q) k) all in
        let q = first most_of (λ (q : ℕ). eqb (slot_by kind q) k) in
        let is : slot_by kind q ≡ k = eqb-true (slot_by kind q) k found.1 in
        let low : q < held_by kind = elim (dec_lt q least_index) [
          | yes l ↦ omega arith
          | no l ↦
              let i : ℕ = q - least_index in
              let rank : least_index + i ≡ q = omega arith in
              let place : first_by kind + i ≡ k = sym (s.behind i (omega (arith, found.0))) ∙ ap (slot_by kind) rank ∙ is in
              let extra = sym (extras-are t f s.layout (first_by kind) s.extras i (omega (arith, found.0))) ∙ ap (present t) place ∙ on in
              omega (arith, ltb-true i (count extra_most (λ (i : ℕ). present t (first_by kind + i))) extra)
        ] in
        record { rank = q; below = low; slot = is }

  pub rank-small : Bytes t → (kind q : ℕ) → index_by kind q < index_count
  rank-small small kind q = index-small (starts_of t) t small (slot_by kind q)
