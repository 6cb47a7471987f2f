-- No accepted table that keeps the built order and gives secrets their own bytes is shorter than the build's. Its structures,
-- in that order, each behind the one before and at a multiple of 8, end no earlier than the build's do; its entries, which hold
-- no zero byte, take at least what the storing rule takes.
--     end_to-same       where structures end depends on the slots below only
--     starts-bound     the heap starts no earlier than the build's
--     content-stands   the entries that the record lists stand in the heap
--     content-apart    those of which one may not share, apart
--     heap-bound       the heap is no smaller than the build's
--     least-length     so Length is no less
--     least-record     and so for every table that reads as a record
-- Assumes nothing.
use Rattle.std.specs.Prelude.{Option, None, Some}
use mathlib.Core.Path.{◌≡◌, refl, sym, ap, ap₂, ◌∙◌, subst}
use mathlib.Core.Logic.{inl, inr, ⊎_elim}
use mathlib.Core.Bool.{Bool, true, false, cond, ◌&&◌}
use mathlib.Core.List.{List}
use Prim.Native.Nat.{ℕ, zero, suc, ◌+◌, ◌-◌, ◌≤◌, ◌<◌}
use native.Mathlib.Omega.{arith}
use borrow.Author.Tests.{ltb-true, lt-ltb}
use lib.Dec.{ltb}
use lib.ListN.{length}
use Rattle.octets.specs.Counting.{count}
use Rattle.string_heap.specs.Stored.{Entry, heap_size}
use Rattle.string_heap.specs.Starts.{align8, end_to}
use Rattle.string_heap.proofs.TailsLaws.{Stands, Clean}
use Rattle.string_heap.proofs.Intervals.{Apart}
use Rattle.string_heap.proofs.StoredLaws.{least-heap}
use Rattle.string_heap.proofs.StartsLaws.{starts-least}
use Rattle.ibft_layout.specs.Layout.{slot_count, entry_count, named_count, most_words, kind_of, built_slot, control_end, may_share}
use Rattle.table_header.specs.Header.{length_of}
use Rattle.ibft_table.specs.Table.{control_end_of, extra_words, starts_of, start_of, present, end_in, heap_of, size_of, offset_of}
use Rattle.ibft_table.specs.Check.{check_of}
use Rattle.ibft_table.specs.Record.{Content, listed, shown_if, content_in, content_of, record_of}
use Rattle.table_header.specs.Verdict.{Accepted}
use Rattle.ibft_table.specs.Order.{keeps_order}
use Rattle.ibft_table.specs.Secrets.{secrets_apart}
use Rattle.octets.proofs.TestLaws.{and_both}
use Rattle.ibft_table_laws.proofs.LayoutLaws.{built-fits}
use Rattle.ibft_table.proofs.CheckLaws.{heap-after-control}
use Rattle.ibft_table_laws.proofs.TableLaws.{facts, slot_kept, slots-disjoint, heap-end, heap-start-le, entry_length, entry-stands}
use Rattle.ibft_table_laws.proofs.SeatLaws.{extras-fit}
use Rattle.octets.proofs.CountLaws.{count_same}
use Rattle.ibft_table_laws.proofs.RecordLaws.{table-entry-some, listed_same}
use Rattle.ibft_table_laws.proofs.OrderLaws.{order-starts}
use Rattle.ibft_table_laws.proofs.SecretsLaws.{apart-entries}

pub end_to-same : (on on' : ℕ → Bool) (size : ℕ → ℕ) (base k : ℕ) → ((i : ℕ) → i < k → on i ≡ on' i) → end_to on size base k ≡ end_to on' size base k
unfolding end_to
end_to-same on on' size base zero h = refl
end_to-same on on' size base (suc k) h =
    ap₂ (λ (b : Bool) (e : ℕ). cond b (align8 e + size k) e) (h k (omega arith)) (end_to-same on on' size base k (λ i l. h i (omega arith)))

-- a later base ends no earlier
pub end_to-base : (on : ℕ → Bool) (size : ℕ → ℕ) (base base' k : ℕ) → base ≤ base' → end_to on size base k ≤ end_to on size base' k
unfolding end_to
end_to-base on size base base' zero h = h
end_to-base on size base base' (suc k) h = go (on k) (end_to-base on size base base' k h)
  where
    go : (b : Bool) → end_to on size base k ≤ end_to on size base' k
        → cond b (align8 (end_to on size base k) + size k) (end_to on size base k) ≤ cond b (align8 (end_to on size base' k) + size k) (end_to on size base' k)
    go true h = omega arith
    go false h = omega arith

-- how many extra slots are in use
abbrev pub extras_of : (ℕ → Bool) → ℕ
extras_of on = count most_words (λ (i : ℕ). on (named_count + i))

-- how long the structure is that is i-th in the build's order
abbrev pub size_built : ℕ → ℕ
size_built i = (kind_of (built_slot i)).length

module _ (t : List ℕ) (ok : check_of t ≡ Accepted) where
  -- ---- Control has a word for each extra

  control-fits : (on : ℕ → Bool) → ((k : ℕ) → k < slot_count → present t k ≡ on k) → control_end (extras_of on) ≤ control_end_of t
  unfolding extra_words starts_of
  control-fits on is =
      let c = (facts t ok).control in
      let long = c.long in
      let short = c.short in
      let even = c.even in
      omega (
        arith,
        extras-fit t (extra_words t),
        count_same most_words (λ (i : ℕ). present t (named_count + i)) (λ (i : ℕ). on (named_count + i)) (λ i l. is (named_count + i) (omega arith)),
      )

  -- ---- the heap's start

  module _ (keeps : keeps_order t ≡ true) where
    -- the i-th structure of the build's order is there; past the last there is none
    there : ℕ → Bool
    there i = ltb i slot_count && present t (built_slot i)

    record There (i : ℕ) : Type 0 where
      turn : i < slot_count
      slot : built_slot i < slot_count
      on : present t (built_slot i) ≡ true

    known : (i : ℕ) → there i ≡ true → There i
    unfolding there
    known i e =
        let w = and_both (ltb i slot_count) _ e in
        let h = ltb-true i slot_count w.0 in
        record { turn = h; slot = (built-fits i h).slot; on = w.1 }

    ordered : (i j : ℕ) → i < j → there i ≡ true → there j ≡ true → start_of t (built_slot i) + size_built i ≤ start_of t (built_slot j)
    unfolding end_in
    ordered i j l p q =
        let a = known i p in
        let b = known j q in
        let lower = order-starts t keeps i j l b.turn a.on b.on in
        ⊎_elim (λ x. x) (λ x. absurd (omega (arith, x, lower)))
        (slots-disjoint t ok (built_slot i) (built_slot j) a.slot b.slot ((built-fits j b.turn).once i l) a.on b.on)

    pub starts-bound : end_to (λ (i : ℕ). present t (built_slot i)) size_built (control_end_of t) slot_count ≤ heap_of t
    unfolding there end_in
    starts-bound =
        let same = end_to-same there (λ (i : ℕ). present t (built_slot i)) size_built (control_end_of t) slot_count
        (λ i l. ap (λ (b : Bool). b && present t (built_slot i)) (lt-ltb i slot_count l)) in
        let least =
        starts-least there size_built (control_end_of t) (λ (i : ℕ). start_of t (built_slot i))
        (λ i p. let a = known i p in (slot_kept t ok (built_slot i) a.slot a.on).aligned)
        (λ i p. let a = known i p in omega (arith, (slot_kept t ok (built_slot i) a.slot a.on).least))
        ordered
        slot_count (heap_of t) (heap-after-control t)
        (λ i l p. let a = known i p in heap-end t ok (built_slot i) a.slot a.on) in
        omega (arith, same, least)

  -- ---- the heap's size, and Length

  module _ (e : ℕ → Entry) (reads : (n : ℕ) → n < entry_count → (content_of t).entry n ≡ e n) where
    pub content-stands : (n : ℕ) (a : List ℕ) → n < entry_count → e n ≡ Some a → Stands t (heap_of t) (length_of t) (offset_of t n) a
    content-stands n a h is =
        let w = table-entry-some t n a (reads n h ∙ is) in
        subst (λ (b : List ℕ). Stands t (heap_of t) (length_of t) (offset_of t n) b) w.1 (entry-stands t ok n h w.0)

    -- those of which one may not share, apart
    pub content-apart : secrets_apart t ≡ true → (i j : ℕ) (a b : List ℕ) → i < j → j < entry_count → e i ≡ Some a → e j ≡ Some b
        → (may_share i && may_share j) ≡ false → Apart (offset_of t i) (offset_of t i + length a + 1) (offset_of t j) (offset_of t j + length b + 1)
    content-apart apart i j a b l h p q alone =
        let u = table-entry-some t i a (reads i (omega arith) ∙ p) in
        let v = table-entry-some t j b (reads j h ∙ q) in
        let la : length a ≡ size_of t i = ap length (sym u.1) ∙ entry_length t ok i (omega arith) u.0 in
        let lb : length b ≡ size_of t j = ap length (sym v.1) ∙ entry_length t ok j h v.0 in
        ⊎_elim (λ x. inl (omega (arith, x, la, lb))) (λ x. inr (omega (arith, x, la, lb))) (apart-entries t apart i j l h alone u.0 v.0)

    module _ (clean : (n : ℕ) (a : List ℕ) → n < entry_count → e n ≡ Some a → Clean a) (apart : secrets_apart t ≡ true) where
      pub heap-bound : heap_size entry_count may_share e ≤ length_of t - heap_of t
      heap-bound =
          least-heap entry_count may_share e t (heap_of t) (length_of t) (λ (n : ℕ). offset_of t n) content-stands clean (content-apart apart)

      -- `on k` says whether slot k's structure is present: it is what the record says of it
      pub least-length : keeps_order t ≡ true → (on : ℕ → Bool) → ((k : ℕ) → k < slot_count → present t k ≡ on k)
          → end_to (λ (i : ℕ). on (built_slot i)) size_built (control_end (extras_of on)) slot_count + heap_size entry_count may_share e ≤ length_of t
      least-length keeps on is =
          omega (
            arith,
            end_to-same (λ (i : ℕ). present t (built_slot i)) (λ (i : ℕ). on (built_slot i)) size_built
                (control_end (extras_of on)) slot_count (λ i l. is (built_slot i) (built-fits i l).slot),
            end_to-base (λ (i : ℕ). present t (built_slot i)) size_built (control_end (extras_of on)) (control_end_of t) slot_count (control-fits on is),
            starts-bound keeps,
            heap-bound,
            heap-start-le t ok,
          )

-- The same for a table that reads as the record of c. `on` tells a structure that is present from one that is absent.
module _
    (c : Content)
    (on : Option (List ℕ) → Bool) (on_some : (a : List ℕ) → on (Some a) ≡ true) (on_none : on None ≡ false)
    (clean : (n : ℕ) (a : List ℕ) → n < entry_count → c.entry n ≡ Some a → Clean a)
  where
    pub least-record : (t : List ℕ) → check_of t ≡ Accepted → record_of t ≡ listed c → keeps_order t ≡ true → secrets_apart t ≡ true
        → end_to (λ (i : ℕ). on (c.structure (built_slot i))) size_built
        (control_end (extras_of (λ (k : ℕ). on (c.structure k)))) slot_count + heap_size entry_count may_share
        c.entry ≤ length_of t
    unfolding record_of content_of content_in
    least-record t ok reads keeps apart =
        let same = listed_same (content_of t) c reads in
        least-length t ok c.entry same.entries clean apart keeps (λ (k : ℕ). on (c.structure k))
        (λ k h. there (present t k) _ ∙ ap on (same.structures k h))
      where
        there : (b : Bool) (x : List ℕ) → b ≡ on (shown_if b x)
        there true x = sym (on_some x)
        there false x = sym on_none
