-- What an accepted table holds by slot: each slot in use has its word, and what the word's structure has to be.
--     slot-at                    the word of a slot in use
--     slot_kept, slots-disjoint  a present structure's facts; any two apart, whichever slot is earlier
--     heap-end                   the heap starts at or behind each structure's end, by slot
-- Assumes nothing.
use mathlib.Core.Path.{◌≡◌, refl, sym, ap, ap₂, ◌∙◌, subst}
use mathlib.Core.Logic.{◌⊎◌, inl, inr, ⊎_elim}
use mathlib.Core.Bool.{true}
use mathlib.Core.List.{List}
use Prim.Native.Nat.{ℕ, ◌+◌, ◌%◌, ◌≤◌, ◌<◌}
use native.Mathlib.Decide.{dec_lt}
use native.Mathlib.Omega.{arith}
use borrow.Author.Tests.{lt-ltb, le-ltb}
use Rattle.octets.specs.Octets.{byte, differs}
use Rattle.octets.proofs.TestLaws.{same_differs}
use Rattle.octets.proofs.CountingLaws.{clash}
use Rattle.ibft_layout.specs.Layout.{Kind, kind_of, slot_count, named_count, chap_at}
use Rattle.ibft_table.specs.Table.{extra_words, word_count, start_at, used_at, kind_at, index_at, end_at, slot_of, starts_of, start_in, present_in}
use Rattle.ibft_table.specs.Table.{end_in, index_in, start_of, present, end_of, heap_of}
use Rattle.ibft_table_laws.specs.Facts.{StartFacts, SlotFacts, Disjoint, Facts}
use Rattle.ibft_table_laws.proofs.HeapLaws.{heap-end as heap-word}
use Rattle.ibft_table.proofs.SeatLaws.{named-at}
use Rattle.ibft_table_laws.proofs.SeatLaws.{Extra, slot-word, slot-kind}

module _ (t : List ℕ) (f : Facts t) where
  -- the word of slot k
  pub record SlotAt (k : ℕ) : Type 0 where
    pub word : ℕ
    pub below : word < word_count t
    pub used : used_at t word ≡ true
    pub start : start_at t word ≡ start_of t k
    pub kind : kind_at t word ≡ kind_of k
    pub index : index_at t word ≡ index_in (starts_of t) t k
    -- which slot it is of
    pub whose : ((k < named_count) × (word ≡ k)) ⊎ ((named_count ≤ word) × (slot_of t word ≡ k))

  present-start : (k : ℕ) → present t k ≡ true → start_of t k ≡ 0 → ⊥
  unfolding present_in
  present-start k on z = clash on (same_differs (start_of t k) 0 z)

  start-used : (w k : ℕ) → start_at t w ≡ start_of t k → present t k ≡ true → used_at t w ≡ true
  unfolding used_at present_in
  start-used w k e on = ap (λ (s : ℕ). differs s 0) e ∙ on

  pub slot-at : (k : ℕ) → k < slot_count → present t k ≡ true → SlotAt k
  unfolding word_count starts_of start_in kind_at index_at index_in
  slot-at k h on =
      elim (dec_lt k named_count) [
        | yes l ↦
            let start : start_at t k ≡ start_of t k = sym (named-at t (extra_words t) k l) in
            record {
              word = k;
              below = omega arith;
              used = start-used k k start on;
              start = start;
              kind = rw (lt-ltb k named_count l);
              index = rw (lt-ltb k named_count l);
              whose = inl (l, refl);
            }
        | no l ↦
            let w = slot-word t (extra_words t) k (omega arith) (present-start k on) in
            let x : Extra t (λ w low h on. f.extra w low h on) w.word = record { low = w.low; high = w.high; used = w.used } in
            record {
              word = w.word;
              below = w.high;
              used = w.used;
              start = w.start;
              kind = sym (slot-kind t (λ w low h on. f.extra w low h on) w.word x) ∙ ap kind_of w.seat;
              index = extra-index w.word k w.low (omega arith) w.start on;
              whose = inr (w.low, w.seat);
            }
      ]
    where
      extra-index : (w k : ℕ) → named_count ≤ w → named_count ≤ k → start_at t w ≡ start_of t k → present t k ≡ true → index_at t w ≡ index_in (starts_of t) t k
      extra-index w k lw lk e on = rw (le-ltb w named_count lw, le-ltb k named_count lk, on) (ap (λ (s : ℕ). byte t (s + 4)) e)

  pub slot_kept : (k : ℕ) → k < slot_count → present t k ≡ true → SlotFacts t k
  unfolding end_in end_at
  slot_kept k h on =
      let a = slot-at k h on in
      let s = f.word a.word a.below a.used in
      let start = a.start in
      let kind = a.kind in
      let inside = s.inside in
      let least = s.least in
      record {
        aligned = ap (λ (x : ℕ). x % 8) (sym start) ∙ s.aligned;
        least = omega arith;
        inside = omega (arith, ap (λ (x : Kind). x.length) kind);
        starts = moved a.word k start kind a.index s.starts;
        chap = λ has. subst (λ (x : ℕ). byte t (x + chap_at) ≤ 2) start (s.chap (ap (λ (x : Kind). x.chap) kind ∙ has));
      }
    where
      moved : (w k : ℕ) → start_at t w ≡ start_of t k → kind_at t w ≡ kind_of k → index_at t w ≡ index_in (starts_of t) t k
          → StartFacts t (start_at t w) (kind_at t w) (index_at t w) → StartFacts t (start_of t k) (kind_of k) (index_in (starts_of t) t k)
      moved w k e g i s =
          subst (λ (x : ℕ). StartFacts t x (kind_of k) (index_in (starts_of t) t k)) e
          (subst (λ (x : Kind). StartFacts t (start_at t w) x (index_in (starts_of t) t k)) g
          (subst (λ (x : ℕ). StartFacts t (start_at t w) (kind_at t w) x) i s))

  -- the ends of word and slot
  slot-end : (k : ℕ) (a : SlotAt k) → end_at t a.word ≡ end_of t k
  unfolding end_at end_in
  slot-end k a = ap₂ (λ (s : ℕ) (x : Kind). s + x.length) a.start a.kind

  -- different slots have different words
  words-differ : (i k : ℕ) (a : SlotAt i) (b : SlotAt k) → (i ≡ k → ⊥) → a.word ≡ b.word → ⊥
  words-differ i k a b ne e =
      ⊎_elim
      (λ x. ⊎_elim (λ y. ne (sym x.1 ∙ e ∙ y.1)) (λ y. omega (arith, x.0, x.1, y.0)) b.whose)
      (λ x. ⊎_elim (λ y. omega (arith, x.0, y.0, y.1)) (λ y. ne (sym x.1 ∙ ap (slot_of t) e ∙ y.1)) b.whose)
      a.whose

  pub slots-disjoint : (i k : ℕ) → i < slot_count → k < slot_count → (i ≡ k → ⊥) → present t i ≡ true → present t k ≡ true → Disjoint t i k
  slots-disjoint i k hi hk ne oni onk =
      let a = slot-at i hi oni in
      let b = slot-at k hk onk in
      let ea = slot-end i a in
      let eb = slot-end k b in
      let sa = a.start in
      let sb = b.start in
      elim (dec_lt a.word b.word) [
        | yes l ↦ ⊎_elim (λ x. inl (omega arith)) (λ x. inr (omega arith)) (f.apart a.word b.word l b.below a.used b.used)
        | no l ↦ elim (dec_lt b.word a.word) [
          | yes m ↦ ⊎_elim (λ x. inr (omega arith)) (λ x. inl (omega arith)) (f.apart b.word a.word m a.below b.used a.used)
          | no m ↦ absurd (words-differ i k a b ne (omega arith))
        ]
      ]

  -- ---- the heap

  pub heap-end : (k : ℕ) → k < slot_count → present t k ≡ true → end_of t k ≤ heap_of t
  heap-end k h on =
      let a = slot-at k h on in
      omega (arith, slot-end k a, heap-word t a.word a.below a.used)
