-- Pairs as the code makes them: a slot for the extra of a group and Index is of the group's kind, and between an Index that a
-- table has and the next one there is no pair.
--     paired-named, group-ends, seat-with     the slots of a pair
--     pair-none, pair-some           an Index that no table has, and one that a table has
--     index-none                     an Index between one that a table has and the next
--     gather-skip                    empty lists at the end
-- Assumes nothing.
use mathlib.Core.Path.{◌≡◌, refl, sym, ap, ◌∙◌}
use mathlib.Core.Bool.{true, false, ◌&&◌}
use mathlib.Core.Logic.{inl, inr, ⊎_elim}
use mathlib.Core.List.{List, [], ◌∷◌, ◌++◌, append-nil}
use Prim.Native.Nat.{ℕ, zero, suc, ◌+◌, ◌≤◌, ◌<◌}
use native.Mathlib.Decide.{dec_lt}
use native.Mathlib.Omega.{arith}
use lib.Dec.{eqb}
use Rattle.octets.specs.Counting.{gather}
use Rattle.octets.proofs.CountingLaws.{gather-last}
use Rattle.ibft_layout.specs.Layout.{kind_of, named_count, slot_count, extra_most}
use Rattle.ibft_table_laws.proofs.LayoutLaws.{nic-slot, target-slot}
use Rattle.ibft_compare.specs.Pairs.{named_pair, slot_with, pair_as, pair_with}
use Rattle.ibft_compare.specs.Walk.{Seat, Paired, ExtraGroup, NoneBetween}
use Rattle.ibft_compare.proofs.SlotWithLaws.{slot-with-found, slot-with-most, slot-with-none}

-- ---- the slots of a pair

pub paired-named : (k : ℕ) → k < named_count → Paired (named_pair k)
unfolding named_pair
paired-named k h = record { group = omega arith; left = inl (omega arith, refl); right = inl (omega arith, refl) }

group-kind : (group i : ℕ) → ExtraGroup group → i < extra_most → (group + i < slot_count) × (kind_of (group + i) ≡ kind_of group)
group-kind group i g h =
    ⊎_elim
    (λ e. rw e (omega arith, nic-slot i h ∙ sym (nic-slot 0 (omega arith))))
    (λ e. rw e (omega arith, target-slot i h ∙ sym (target-slot 0 (omega arith))))
    g

pub group-ends : (group : ℕ) → ExtraGroup group → group + extra_most ≤ slot_count
group-ends group g = ⊎_elim (λ e. omega arith) (λ e. omega arith) g

pub seat-with : (indices : List ℕ) (group index : ℕ) → ExtraGroup group → Seat group (slot_with indices group index)
seat-with indices group index g =
    elim (dec_lt (slot_with indices group index) slot_count) [
      | yes l ↦
          let found = slot-with-found indices group index l in
          inl (l, ap kind_of found.slot ∙ (group-kind group found.place g found.below).1)
      | no l ↦ inr (omega (arith, slot-with-most indices group index (group-ends group g)))
    ]

-- ---- an Index

module _ (group index left right : ℕ) where
  pub pair-none : eqb left slot_count && eqb right slot_count ≡ true → pair_as group index left right ≡ []
  unfolding pair_as
  pair-none e = rw e refl

  pub pair-some : eqb left slot_count && eqb right slot_count ≡ false
      → pair_as group index left right ≡ record { group = group; index = index; left = left; right = right } ∷ []
  unfolding pair_as
  pair-some e = rw e refl

pub index-none : (a b : List ℕ) (group after next i : ℕ) → NoneBetween a group after next → NoneBetween b group after next → after < i → i < next
    → pair_with a b group i ≡ []
unfolding pair_with
index-none a b group after next i na nb low high =
    let none : eqb (slot_with a group i) slot_count && eqb (slot_with b group i) slot_count ≡ true =
    rw (
      slot-with-none a group i (λ j l e. omega (arith, na j l (omega arith))),
      slot-with-none b group i (λ j l e. omega (arith, nb j l (omega arith))),
    ) refl in
    pair-none group i (slot_with a group i) (slot_with b group i) none

-- ---- lists of which some are empty

pub gather-skip {ℓ} : {A : Type ℓ} (f : ℕ → List A) (k n m : ℕ) → ((i : ℕ) → k + n ≤ i → i < k + (n + m) → f i ≡ []) → gather f k (n + m) ≡ gather f k n
gather-skip f k n zero none = ap (gather f k) (omega arith)
gather-skip f k n (suc m) none =
    let next : n + suc m ≡ suc (n + m) = omega arith in
    ap (gather f k) next
    ∙ gather-last f k (n + m)
    ∙ ap (λ (l : List _). gather f k (n + m) ++ l) (none (k + (n + m)) (omega arith) (omega arith))
    ∙ append-nil (gather f k (n + m))
    ∙ gather-skip f k n m (λ i l h. none i l (omega arith))
