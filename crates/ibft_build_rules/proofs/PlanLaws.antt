-- Where a build puts things. The ends grow along the build's order, and a present structure stands between the end before it
-- and its own; so starts are aligned, in order and disjoint. Every number of the plan fits a word, as Length is bounded.
--     turn-fits                                                    the build's order has each slot in one turn
--     end-present, end-absent, end-grows, end-least                the ends along the build's order
--     start_is, start_none, start-aligned, start-least             a structure's start
--     start-end, start-inside                                      where it ends
--     starts-ordered, starts-disjoint                              two structures
--     offset-is, offset-none, offset-low, offset-high              an entry's offset
--     start-below, length-below, offset-below, size_below          every number of the plan fits a word
-- Assumes nothing.
use Rattle.std.specs.Prelude.{Option, None, Some}
use mathlib.Core.Path.{◌≡◌, refl, sym, ap, ◌∙◌}
use mathlib.Core.Logic.{◌⊎◌, inl, inr}
use mathlib.Core.Bool.{Bool, true, false, cond}
use mathlib.Core.List.{List}
use Prim.Native.Nat.{ℕ, zero, suc, ◌+◌, ◌%◌, ◌≤◌, ◌<◌}
use native.Mathlib.Decide.{dec_lt}
use native.Mathlib.Omega.{arith}
use borrow.Author.Tests.{eq-eqb, ne_eqb, eqb-true}
use lib.ListN.{length}
use lib.Dec.{eqb}
use Rattle.octets.proofs.CountingLaws.{first-is, any-first}
use Rattle.string_heap.specs.Stored.{Entry}
use Rattle.string_heap.specs.Places.{len, place}
use Rattle.string_heap.specs.Starts.{align8, end_to}
use Rattle.string_heap.proofs.HolderLaws.{placed}
use Rattle.ibft_layout.specs.Layout.{kind_of, slot_count, entry_count, control_end, built_slot, may_share}
use Rattle.ibft_table.specs.Record.{Content}
use Rattle.ibft_table_laws.proofs.LayoutLaws.{built-fits}
use Rattle.ibft_build_rules.specs.Plan.{is_present, extras_built, end_built, turn_of, start_built, heap_start, length_built, offset_as, offset_built}
use Rattle.ibft_build_rules.proofs.GoodContent.{Good}
use Rattle.ibft_build_rules.proofs.BoundLaws.{heap-start-bound, length-bound}

-- what is present is some bytes
pub present-some : (o : Option (List ℕ)) → is_present o ≡ true → (b : List ℕ) × (o ≡ Some b)
unfolding is_present
present-some None e = absurd (let z : ◌≡◌ {A = ℕ} 0 1 = cc in omega arith)
present-some (Some b) e = (b, refl)

pub some-present : (o : Option (List ℕ)) (b : List ℕ) → o ≡ Some b → is_present o ≡ true
unfolding is_present
some-present o b e = ap is_present e

pub none-absent : (o : Option (List ℕ)) → o ≡ None → is_present o ≡ false
unfolding is_present
none-absent o e = ap is_present e

-- ---- turns

-- of turn k its slot, of slot k its turn
pub record TurnFits (k : ℕ) : Type 0 where
  pub slot : built_slot k < slot_count
  pub turn-of-slot : turn_of (built_slot k) ≡ k
  pub turn : turn_of k < slot_count
  pub slot-of-turn : built_slot (turn_of k) ≡ k

pub turn-fits : (k : ℕ) → k < slot_count → TurnFits k
unfolding turn_of
turn-fits k h =
    let b = built-fits k h in
    let w = any-first slot_count (λ (j : ℕ). eqb (built_slot j) k) b.built in
    record {
      slot = b.slot;
      turn-of-slot = first-is slot_count (λ (j : ℕ). eqb (built_slot j) (built_slot k)) k (omega arith)
          (λ j l. ne_eqb (built_slot j) (built_slot k) (b.once j l)) (λ l. eq-eqb (built_slot k) (built_slot k) refl);
      turn = w.0;
      slot-of-turn = eqb-true (built_slot (turn_of k)) k w.1;
    }

-- ---- the ends along the build's order

module _ (c : Content) where
  pub end-present : (j : ℕ) → is_present (c.structure (built_slot j)) ≡ true → end_built c (suc j) ≡ align8 (end_built c j) + (kind_of (built_slot j)).length
  unfolding end_built end_to
  end-present j on = ap (λ (b : Bool). cond b (align8 (end_built c j) + (kind_of (built_slot j)).length) (end_built c j)) on

  pub end-absent : (j : ℕ) → is_present (c.structure (built_slot j)) ≡ false → end_built c (suc j) ≡ end_built c j
  unfolding end_built end_to
  end-absent j off = ap (λ (b : Bool). cond b (align8 (end_built c j) + (kind_of (built_slot j)).length) (end_built c j)) off

  pub end-first : end_built c 0 ≡ control_end (extras_built c)
  unfolding end_built end_to
  end-first = refl

  end_step : (j : ℕ) → end_built c j ≤ end_built c (suc j)
  end_step j = go (is_present (c.structure (built_slot j))) refl
    where
      go : (b : Bool) → is_present (c.structure (built_slot j)) ≡ b → end_built c j ≤ end_built c (suc j)
      go true on = omega (arith, end-present j on)
      go false off = omega (arith, end-absent j off)

  pub end-grows : (i j : ℕ) → i ≤ j → end_built c i ≤ end_built c j
  end-grows i zero h = let z : i ≡ 0 = omega arith in rw z (omega arith)
  end-grows i (suc j) h =
      elim (dec_lt j i) [
        | yes l ↦ let z : i ≡ suc j = omega arith in rw z (omega arith)
        | no l ↦ omega (arith, end-grows i j (omega arith), end_step j)
      ]

  pub end-least : (j : ℕ) → control_end (extras_built c) ≤ end_built c j
  end-least j = omega (arith, end-first, end-grows 0 j (omega arith))

-- ---- a structure's start

module _ (c : Content) (k : ℕ) where
  pub start_none : is_present (c.structure k) ≡ false → start_built c k ≡ 0
  unfolding start_built
  start_none off = rw off

  module _ (on : is_present (c.structure k) ≡ true) where
    pub start_is : start_built c k ≡ align8 (end_built c (turn_of k))
    unfolding start_built
    start_is = rw on

    pub start-aligned : start_built c k % 8 ≡ 0
    start-aligned = omega (arith, start_is)

    pub start-least : control_end (extras_built c) ≤ start_built c k
    start-least = omega (arith, start_is, end-least c (turn_of k))

    module _ (h : k < slot_count) where
      pub start-end : start_built c k + (kind_of k).length ≡ end_built c (suc (turn_of k))
      start-end =
          let same = (turn-fits k h).slot-of-turn in
          let there : is_present (c.structure (built_slot (turn_of k))) ≡ true = rw same on in
          omega (arith, start_is, end-present c (turn_of k) there, ap (λ (i : ℕ). (kind_of i).length) same)

      pub start-inside : start_built c k + (kind_of k).length ≤ heap_start c
      unfolding heap_start
      start-inside = omega (arith, start-end, end-grows c (suc (turn_of k)) slot_count (turn-fits k h).turn)

-- ---- two structures

module _ (c : Content) where
  -- the one whose turn comes first ends before the other starts
  turns-apart : (i k : ℕ) → i < slot_count → turn_of i < turn_of k → is_present (c.structure i) ≡ true → is_present (c.structure k) ≡ true
      → start_built c i + (kind_of i).length ≤ start_built c k
  turns-apart i k h l oni onk = omega (arith, start-end c i oni h, start_is c k onk, end-grows c (suc (turn_of i)) (turn_of k) l)

  pub starts-ordered : (i j : ℕ) → i < j → j < slot_count → is_present (c.structure (built_slot i)) ≡ true → is_present (c.structure (built_slot j)) ≡ true
      → start_built c (built_slot i) + (kind_of (built_slot i)).length ≤ start_built c (built_slot j)
  starts-ordered i j l h oni onj =
      let fi = turn-fits i (omega arith) in
      let fj = turn-fits j h in
      turns-apart (built_slot i) (built_slot j) fi.slot (omega (arith, fi.turn-of-slot, fj.turn-of-slot)) oni onj

  pub starts-disjoint : (i k : ℕ) → i < slot_count → k < slot_count → (i ≡ k → ⊥) → is_present (c.structure i) ≡ true → is_present (c.structure k) ≡ true
      → (start_built c i + (kind_of i).length ≤ start_built c k) ⊎ (start_built c k + (kind_of k).length ≤ start_built c i)
  starts-disjoint i k hi hk ne oni onk =
      elim (dec_lt (turn_of i) (turn_of k)) [
        | yes l ↦ inl (turns-apart i k hi l oni onk)
        | no l ↦ elim (dec_lt (turn_of k) (turn_of i)) [
          | yes m ↦ inr (turns-apart k i hk m onk oni)
          | no m ↦
              let same : turn_of i ≡ turn_of k = omega arith in
              absurd (ne (sym (turn-fits i hi).slot-of-turn ∙ ap built_slot same ∙ (turn-fits k hk).slot-of-turn))
        ]
      ]

-- ---- the heap and the entries

pub heap-start-least : (c : Content) → control_end (extras_built c) ≤ heap_start c
unfolding heap_start
heap-start-least c = end-least c slot_count

pub heap-start-length : (c : Content) → heap_start c ≤ length_built c
unfolding length_built
heap-start-length c = omega arith

pub length-least : (c : Content) → control_end (extras_built c) ≤ length_built c
length-least c = omega (arith, heap-start-least c, heap-start-length c)

module _ (c : Content) (n : ℕ) where
  pub offset-none : c.entry n ≡ None → offset_built c n ≡ 0
  unfolding offset_built offset_as
  offset-none e = ap (offset_as c n) e

  module _ (a : List ℕ) (is : c.entry n ≡ Some a) where
    pub offset-is : offset_built c n ≡ heap_start c + place entry_count may_share c.entry n a
    unfolding offset_built offset_as
    offset-is = ap (offset_as c n) is

    pub offset-low : heap_start c ≤ offset_built c n
    offset-low = omega (arith, offset-is)

    pub offset-high : n < entry_count → offset_built c n + length a < length_built c
    unfolding length_built
    offset-high h = let high = (placed entry_count may_share c.entry n a h is).high in omega (arith, offset-is)

-- every number of the plan fits a word
module _ (c : Content) where
  pub start-below : (k : ℕ) → k < slot_count → start_built c k < 65536
  start-below k h = go (is_present (c.structure k)) refl
    where
      go : (b : Bool) → is_present (c.structure k) ≡ b → start_built c k < 65536
      go true on = omega (arith, start-inside c k on h, heap-start-bound c)
      go false off = omega (arith, start_none c k off)

  module _ (good : Good c) where
    pub length-below : length_built c < 65536
    length-below = omega (arith, length-bound c good)

    module _ (n : ℕ) (h : n < entry_count) where
      pub offset-below : offset_built c n < 65536
      offset-below = go (c.entry n) refl
        where
          go : (o : Entry) → c.entry n ≡ o → offset_built c n < 65536
          go None e = omega (arith, offset-none c n e)
          go (Some a) e = omega (arith, offset-high c n a e h, length-below)

      pub size_below : len (c.entry n) < 65536
      unfolding len
      size_below = go (c.entry n) refl
        where
          go : (o : Entry) → c.entry n ≡ o → len (c.entry n) < 65536
          go None e = omega (arith, ap len e)
          go (Some a) e = omega (arith, ap len e, offset-high c n a e h, length-below)
