-- Laws of where structures stand.
--     built-past, built-below   the build's order names slots only
--     extra-turn                the turns of extras: from 3 to 8 and from 11 on
--     turn-le, turn-past        a slot's turn; past the last slot
--     after_on, after-off       the end behind one more structure, as the code returns it
--     end-first, end_more       the end before any structure, and behind one more
--     present-given, extras-built, end-built, start-built     the content's structures, extras and places are the range's
--     end-grows, end-bound      ends grow, and none lies far out
--     Ended, ended-small, ended-more   the list of the ends, made up to the j-th
--     ends_at, ends-count, ends-bound     what stands in the list of the ends
--     start-on, start-off       the start of a structure, as the code returns it
-- Assumes nothing.
use mathlib.Core.Path.{◌≡◌, refl, sym, ap, ap₂, ◌∙◌}
use mathlib.Core.Bool.{Bool, true, false, cond, not, ◌&&◌, ◌||◌}
use mathlib.Core.List.{List, []}
use Prim.Native.Nat.{ℕ, zero, suc, ◌+◌, ◌≤◌, ◌<◌}
use native.Mathlib.Numerals.{add-one}
use native.Mathlib.Decide.{dec_lt}
use native.Mathlib.Omega.{arith}
use lib.Dec.{eqb, ltb, leb}
use lib.ListN.{length, get_or, get_or-eq_default, set, length-set}
use borrow.Author.Tests.{ne_eqb, le-ltb, leb-true}
use Rattle.octets.specs.Counting.{any, count}
use Rattle.octets.proofs.CountingLaws.{each_holds, first-le, first-is, length-tabulate, get_d_tabulate}
use Rattle.octets.proofs.TestLaws.{and_no}
use Rattle.string_heap.specs.Starts.{align8, end_to}
use Rattle.ibft_layout.specs.Layout.{kind_of, slot_count, named_count, most_words, control_end, built_order, built_slot}
use Rattle.ibft_table.specs.Record.{shown_if}
use Rattle.ibft_table.specs.Computing.{computing}
use Rattle.ibft_table_laws.proofs.LayoutLaws.{built-fits}
use Rattle.ibft_build_rules.specs.RecordRange.{structure_given, content_given}
use Rattle.ibft_build_rules.specs.Plan.{is_present, extras_built, turn_of, end_built, start_built, heap_start}
use Rattle.ibft_build_rules.proofs.BoundLaws.{heap-start-bound}
use Rattle.ibft_build_rules.proofs.PlanLaws.{end-grows as built-grows}
use Rattle.ibft_record.specs.Limits.{extras_given}
use Rattle.ibft_build.specs.Planning.{end_given, structure_ends, structure_start}
use Rattle.ibft_build.proofs.ListLaws.{tabulate-more}

-- ---- the build's order

pub built-past : (j : ℕ) → slot_count ≤ j → built_slot j ≡ built_slot 0
unfolding built_slot
built-past j h = get_or-eq_default built_order 0 {n = j} h

pub built-below : (j : ℕ) → built_slot j < slot_count
built-below j =
    elim (dec_lt j slot_count) [
      | yes l ↦ (built-fits j l).slot
      | no l ↦ omega (arith, built-past j (omega arith), (built-fits 0 (omega arith)).slot)
    ]

turns-extra : any slot_count (λ (j : ℕ). not (ltb j 3 || (leb 9 j && ltb j 11) || leb named_count (built_slot j))) ≡ false
unfolding computing
turns-extra = refl

pub extra-turn : (j : ℕ) → 3 ≤ j → j < slot_count → (9 ≤ j → 11 ≤ j) → named_count ≤ built_slot j
extra-turn j low high apart =
    leb-true named_count (built_slot j)
    (sym (rw (le-ltb j 3 low, middle))
    ∙ each_holds slot_count (λ (i : ℕ). ltb i 3 || (leb 9 i && ltb i 11) || leb named_count (built_slot i)) turns-extra j high)
  where
    middle : (leb 9 j && ltb j 11) ≡ false
    middle = and_no (leb 9 j) (ltb j 11) (λ e. le-ltb j 11 (apart (leb-true 9 j e)))

pub turn-le : (k : ℕ) → turn_of k ≤ slot_count
unfolding turn_of
turn-le k = first-le slot_count _

pub turn-past : (k : ℕ) → slot_count ≤ k → slot_count ≡ turn_of k
unfolding turn_of
turn-past k h =
    sym (first-is slot_count (λ (j : ℕ). eqb (built_slot j) k) slot_count (omega arith)
    (λ j l. ne_eqb (built_slot j) k (λ e. omega (arith, built-below j))) (λ l. absurd (omega arith)))

-- ---- ends

-- k is the slot that the code looks up, l its structure's length, v the next multiple of 8 behind e
module _ (r : List ℕ) (j k e : ℕ) (slot : k ≡ built_slot j) where
  pub after_on : structure_given r k ≡ true → (v l : ℕ) → v ≡ align8 e → l ≡ (kind_of k).length
      → v + l ≡ cond (structure_given r (built_slot j)) (align8 e + (kind_of (built_slot j)).length) e
  after_on on v l p q = rw (← slot, on) (ap₂ (λ (x y : ℕ). x + y) p q)

  pub after-off : structure_given r k ≡ false → e ≡ cond (structure_given r (built_slot j)) (align8 e + (kind_of (built_slot j)).length) e
  after-off off = rw (← slot, off)

pub end-first : (r : List ℕ) → control_end (extras_given r) ≡ end_given r 0
unfolding end_given end_to
end-first r = refl

pub end_more : (r : List ℕ) (j e v : ℕ) → e ≡ end_given r j
    → v ≡ cond (structure_given r (built_slot j)) (align8 e + (kind_of (built_slot j)).length) e → v ≡ end_given r (j + 1)
unfolding end_given end_to
end_more r j e v at is =
    is ∙ ap (λ (m : ℕ). cond (structure_given r (built_slot j)) (align8 m + (kind_of (built_slot j)).length) m) at
    ∙ ap (end_given r) (sym (add-one j))

-- ---- the plan's places

module _ (r s : List ℕ) where
  pub present-given : (k : ℕ) → is_present ((content_given r s).structure k) ≡ structure_given r k
  unfolding content_given is_present
  present-given k = go _ (structure_given r k)
    where
      go : (b : List ℕ) (on : Bool) → is_present (shown_if on b) ≡ on
      go b true = refl
      go b false = refl

  pub extras-built : extras_built (content_given r s) ≡ extras_given r
  unfolding extras_built extras_given
  extras-built = ap (count most_words) (λ i k. present-given (named_count + k) i)

  pub end-built : (j : ℕ) → end_built (content_given r s) j ≡ end_given r j
  unfolding end_built end_given end_to
  end-built zero = ap (λ (n : ℕ). control_end n) extras-built
  end-built (suc j) =
      ap₂ (λ (on : Bool) (e : ℕ). cond on (align8 e + (kind_of (built_slot j)).length) e) (present-given (built_slot j)) (end-built j)

  pub start-built : (k : ℕ) → start_built (content_given r s) k ≡ structure_start r k
  unfolding start_built structure_start
  start-built k = ap₂ (λ (on : Bool) (e : ℕ). cond on (align8 e) 0) (present-given k) (end-built (turn_of k))

-- so they grow along the build's order, and all of them lie before the largest heap
pub end-grows : (r : List ℕ) (i j : ℕ) → i ≤ j → end_given r i ≤ end_given r j
end-grows r i j h = omega (arith, end-built r [] i, end-built r [] j, built-grows (content_given r []) i j h)

pub end-bound : (r : List ℕ) (j : ℕ) → j ≤ slot_count → end_given r j ≤ 1454
unfolding heap_start
end-bound r j h = omega (arith, end-grows r j slot_count h, end-built r [] slot_count, heap-start-bound (content_given r []))

-- in the list of the ends those of the first j structures, and of none, are made
pub record Ended (r ends : List ℕ) (j : ℕ) : Type 0 where
  pub long : length ends ≡ slot_count + 1
  pub made : (i : ℕ) → i < j + 1 → get_or ends i 0 ≡ end_given r i

module _ (r ends : List ℕ) (j : ℕ) (ended : Ended r ends j) where
  pub ended-small : j ≤ slot_count → get_or ends j 0 ≤ 2000
  ended-small h = omega (arith, ended.made j (omega arith), end-bound r j h)

  pub ended-more : j < slot_count → (v : ℕ)
      → v ≡ cond (structure_given r (built_slot j)) (align8 (get_or ends j 0) + (kind_of (built_slot j)).length) (get_or ends j 0)
      → Ended r (set ends (j + 1) v) (j + 1)
  ended-more h v e =
      record {
        long = simp length-set ended.long;
        made = tabulate-more (end_given r) ends (j + 1) ended.made (omega (arith, ended.long)) v (end_more r j _ v (ended.made j (omega arith)) e);
      }

module _ (r ends : List ℕ) (are : ends ≡ structure_ends r) where
  pub ends_at : (j : ℕ) → j ≤ slot_count → get_or ends j 0 ≡ end_given r j
  unfolding structure_ends
  ends_at j h = ap (λ (l : List ℕ). get_or l j 0) are ∙ get_d_tabulate (end_given r) (slot_count + 1) j 0 (omega arith)

  pub ends-count : length ends ≡ slot_count + 1
  unfolding structure_ends
  ends-count = ap length are ∙ length-tabulate (end_given r) 0 (slot_count + 1)

  pub ends-bound : (j : ℕ) → j ≤ slot_count → get_or ends j 0 ≤ 1454
  ends-bound j h = omega (arith, ends_at j h, end-bound r j h)

-- ---- starts

module _ (r : List ℕ) (k : ℕ) where
  pub start-on : structure_given r k ≡ true → (e t : ℕ) → t ≡ turn_of k → e ≡ end_given r t → (v : ℕ) → v ≡ align8 e → v ≡ structure_start r k
  unfolding structure_start
  start-on on e t turn end v is =
      is ∙ ap (λ (m : ℕ). align8 m) (end ∙ ap (end_given r) turn) ∙ sym (ap (λ (b : Bool). cond b (align8 (end_given r (turn_of k))) 0) on)

  pub start-off : structure_given r k ≡ false → 0 ≡ structure_start r k
  unfolding structure_start
  start-off off = sym (ap (λ (b : Bool). cond b (align8 (end_given r (turn_of k))) 0) off)
