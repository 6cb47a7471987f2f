-- What stands in the first bytes of a table, up to Length or another bound, stands in every list that begins with them.
--     begins-cut, begins-more                  a table cut behind Length, or with other bytes behind it, begins with it
--     begins-shorter                           and with less of it
--     byte-same, word16-same, part_same, ..    what lies in the common bytes is the same
--     length-same, words_same, at_same, ..     so Length, Control's words and where they lead are the same
--     kind-same, index_same                    a used word whose structure's first six bytes lie inside has the same kind and
--                                              Index
--     starts-same, heap-same                   so, where all of them do, are the starts by slot and the heap's start
-- Assumes nothing.
use mathlib.Core.Path.{◌≡◌, refl, sym, ap, ap₂, ◌∙◌}
use mathlib.Core.Bool.{Bool, true, false, cond, ◌&&◌, ◌||◌}
use mathlib.Core.List.{List, ◌++◌}
use Prim.Native.Nat.{ℕ, zero, suc, ◌+◌, ◌-◌, ◌/◌, ◌≤◌, ◌<◌, min, max}
use native.Mathlib.Nat.{zero-add}
use native.Mathlib.Omega.{arith}
use borrow.Author.Tests.{lt-ltb}
use lib.ListN.{length, get_or, set, take, length-append, length-take}
use lib.Seq.{get_or-take, take-take, take-append-le}
use lib.Dec.{ltb, leb, eqb}
use Rattle.octets.specs.Counting.{count}
use Rattle.octets.specs.Octets.{byte, word16, word32, part, zeros, differs}
use Rattle.octets.proofs.ReadLaws.{part-within, part-whole}
use Rattle.octets.proofs.CountingLaws.{tabulate-same}
use Rattle.octets.proofs.CountLaws.{count_same}
use Rattle.ibft_layout.specs.Layout.{Kind, nic, target, named_count, entry_count, control_at, word_at, kind_of, index_of, owner_of, least_length}
use Rattle.table_header.specs.Header.{length_of}
use Rattle.ibft_table.specs.Table.{control_length, control_end_of, extra_words, word_count, start_at, used_at, kind_at, index_at, end_at, end_below}
use Rattle.ibft_table.specs.Table.{heap_of, alike, first_slot, slot_of, seated, starts_to, starts_of, start_in, present_in, end_in, field_in, size_in}
use Rattle.ibft_table.specs.Table.{offset_in, holds_in, start_of, present, end_of, field_of, size_of, offset_of, holds_entry}
use Rattle.ibft_table_laws.specs.Begins.{Begins}
use Rattle.ibft_table_laws.proofs.TableLaws.{entry-words-le}

-- ---- what begins alike

pub begins-cut : (t : List ℕ) (n m : ℕ) → n ≤ m → n ≤ length t → Begins (take m t) t n
begins-cut t n m h l = record { long = omega (arith, length-take m t); same = take-take n m t h }

pub begins-more : (t rest : List ℕ) (n m : ℕ) → n ≤ m → n ≤ length t → Begins (take m (t ++ rest)) t n
begins-more t rest n m h l = record {
  long = omega (arith, length-take m (t ++ rest), length-append t rest);
  same = take-take n m (t ++ rest) h ∙ take-append-le n t rest l;
}

pub begins-shorter : (u t : List ℕ) (m n : ℕ) → m ≤ n → Begins u t n → Begins u t m
begins-shorter u t m n h like = record {
  long = omega (arith, like.long);
  same = sym (take-take m n u h) ∙ ap (take m) like.same ∙ take-take m n t h;
}

-- ---- bytes, words and parts that lie in the common bytes

module _ (u t : List ℕ) (n : ℕ) (like : Begins u t n) where
  pub byte-same : (i : ℕ) → i < n → byte u i ≡ byte t i
  byte-same i h = sym (get_or-take n u i 0 h) ∙ ap (λ (l : List ℕ). get_or l i 0) like.same ∙ get_or-take n t i 0 h

  pub word16-same : (i : ℕ) → i + 2 ≤ n → word16 u i ≡ word16 t i
  word16-same i h = omega (arith, byte-same i (omega arith), byte-same (i + 1) (omega arith))

  pub word32-same : (i : ℕ) → i + 4 ≤ n → word32 u i ≡ word32 t i
  word32-same i h = omega (arith, word16-same i (omega arith), word16-same (i + 2) (omega arith))

  pub part_same : (i m : ℕ) → i + m ≤ n → part u i m ≡ part t i m
  part_same i m h = sym (cut u) ∙ ap (λ (l : List ℕ). part l i m) like.same ∙ cut t
    where
      cut : (l : List ℕ) → part (take n l) i m ≡ part l i m
      cut l = ap (λ (x : List ℕ). part x i m) (sym (part-whole l n)) ∙ part-within l 0 n i m h ∙ ap (λ (j : ℕ). part l j m) (zero-add i)

-- ---- Control's words

module _ (t u : List ℕ) (bound : ℕ) (least : least_length ≤ bound) (like : Begins u t bound) where
  pub length-same : length_of u ≡ length_of t
  length-same = word32-same u t bound like 4 (omega arith)

  pub control-length-same : control_length u ≡ control_length t
  control-length-same = word16-same u t bound like (control_at + 2) (omega arith)

  pub control-end-same : control_end_of u ≡ control_end_of t
  control-end-same = ap (λ (l : ℕ). control_at + l) control-length-same

  pub extras-same : extra_words u ≡ extra_words t
  unfolding extra_words
  extras-same = ap (λ (l : ℕ). min 12 ((l - 18) / 2)) control-length-same

  pub words_same : word_count u ≡ word_count t
  unfolding word_count
  words_same = ap (λ (e : ℕ). named_count + e) extras-same

  -- Control lies inside
  module _ (inside : control_end_of t ≤ bound) where
    word-inside : (w : ℕ) → w < word_count t → word_at w + 2 ≤ bound
    unfolding word_count extra_words
    word-inside w h = omega arith

    module _ (w : ℕ) (h : w < word_count t) where
      pub at_same : start_at u w ≡ start_at t w
      unfolding start_at
      at_same = word16-same u t bound like (word_at w) (word-inside w h)

      pub used-same : used_at u w ≡ used_at t w
      unfolding used_at
      used-same = ap (λ (s : ℕ). differs s 0) at_same

      -- the first six bytes of its structure lie inside
      module _ (six : start_at t w + 6 ≤ bound) where
        pub kind-same : kind_at u w ≡ kind_at t w
        unfolding kind_at
        kind-same =
            ap (λ (b : ℕ). cond (ltb w named_count) (kind_of w) (cond (eqb b 3) nic target))
            (ap (byte u) at_same ∙ byte-same u t bound like (start_at t w) (omega arith))

        pub index_same : index_at u w ≡ index_at t w
        unfolding index_at
        index_same =
            ap (λ (b : ℕ). cond (ltb w named_count) (index_of w) b)
            (ap (λ (s : ℕ). byte u (s + 4)) at_same ∙ byte-same u t bound like (start_at t w + 4) (omega arith))

        pub end_same : end_at u w ≡ end_at t w
        unfolding end_at
        end_same = ap₂ (λ (s : ℕ) (k : Kind). s + k.length) at_same kind-same

      -- a named word's kind is settled
      pub named-kind-same : w < named_count → kind_at u w ≡ kind_at t w
      unfolding kind_at
      named-kind-same l = rw (lt-ltb w named_count l)

    -- ---- slots, where the words below m that are used have their first six bytes inside

    module _ (m : ℕ) (few : m ≤ word_count t) (six : (w : ℕ) → w < m → used_at t w ≡ true → start_at t w + 6 ≤ bound) where
      pub alike_same : (w v : ℕ) → v < m → w < word_count t → start_at t w + 6 ≤ bound → alike u w v ≡ alike t w v
      unfolding alike
      alike_same w v h l first = go (used_at t v) refl
        where
          go : (b : Bool) → used_at t v ≡ b
              → (leb named_count v && (used_at u v && eqb (kind_at u v).id (kind_at u w).id))
              ≡ (leb named_count v && (used_at t v && eqb (kind_at t v).id (kind_at t w).id))
          go false off = rw (used-same v (omega arith), off)
          go true on = rw (used-same v (omega arith), kind-same v (omega arith) (six v h on), kind-same w l first)

      -- and an Index below or like word w's
      pub index-test-same : (test : ℕ → ℕ → Bool) (w v : ℕ) → v < m → w < word_count t → start_at t w + 6 ≤ bound
          → (alike u w v && test (index_at u v) (index_at u w)) ≡ (alike t w v && test (index_at t v) (index_at t w))
      unfolding alike
      index-test-same test w v h l first = go (used_at t v) refl
        where
          go : (b : Bool) → used_at t v ≡ b → (alike u w v && test (index_at u v) (index_at u w)) ≡ (alike t w v && test (index_at t v) (index_at t w))
          go true on = rw (alike_same w v h l first, index_same v (omega arith) (six v h on), index_same w l first)
          go false off =
              let none : alike u w v ≡ false = alike_same w v h l first ∙ unused (leb named_count v) in
              let none' : alike t w v ≡ false = unused (leb named_count v) in
              rw (none, none')
            where
              unused : (b : Bool) → (b && (used_at t v && eqb (kind_at t v).id (kind_at t w).id)) ≡ false
              unused true = rw off
              unused false = refl

    -- ---- the starts by slot and the heap, where all used words have their first six bytes inside

    module _ (six : (w : ℕ) → w < word_count t → used_at t w ≡ true → start_at t w + 6 ≤ bound) where
      slot_same : (w : ℕ) → w < word_count t → used_at t w ≡ true → slot_of u w ≡ slot_of t w
      unfolding slot_of
      slot_same w h on =
          ap₂ (λ (k : Kind) (c : ℕ). first_slot k + c) (kind-same w h (six w h on))
          (ap (λ (n : ℕ). count n (λ (v : ℕ). alike u w v && ltb (index_at u v) (index_at u w))) words_same
          ∙ count_same (word_count t) (λ (v : ℕ). alike u w v && ltb (index_at u v) (index_at u w)) (λ (v : ℕ). alike t w v && ltb (index_at t v) (index_at t w))
          (λ v l. index-test-same (word_count t) (omega arith) six ltb w v l h (six w h on)))

      starts-to : (e : ℕ) → e ≤ extra_words t → starts_to u e ≡ starts_to t e
      unfolding starts_to seated word_count
      starts-to zero h =
          ap (λ (l : List ℕ). l ++ zeros 12) (tabulate-same (start_at u) (start_at t) 0 named_count (λ k a b. at_same k (omega arith)))
      starts-to (suc e) h = go (used_at t (named_count + e)) refl (starts-to e (omega arith))
        where
          go : (b : Bool) → used_at t (named_count + e) ≡ b → starts_to u e ≡ starts_to t e
              → cond (used_at u (named_count + e)) (set (starts_to u e) (slot_of u (named_count + e)) (start_at u (named_count + e))) (starts_to u e)
              ≡ cond (used_at t (named_count + e)) (set (starts_to t e) (slot_of t (named_count + e)) (start_at t (named_count + e))) (starts_to t e)
          go false off before = rw (used-same (named_count + e) (omega arith), off) before
          go true on before =
              rw (used-same (named_count + e) (omega arith), on, slot_same (named_count + e) (omega arith) on, at_same (named_count + e) (omega arith), before)

      pub starts-same : starts_of u ≡ starts_of t
      unfolding starts_of
      starts-same = ap (starts_to u) extras-same ∙ starts-to (extra_words t) (omega arith)

      ends_same : (w : ℕ) → w ≤ word_count t → end_below u w ≡ end_below t w
      unfolding end_below
      ends_same zero h = control-end-same
      ends_same (suc w) h = go (used_at t w) refl (ends_same w (omega arith))
        where
          go : (b : Bool) → used_at t w ≡ b → end_below u w ≡ end_below t w
              → max (end_below u w) (cond (used_at u w) (end_at u w) 0) ≡ max (end_below t w) (cond (used_at t w) (end_at t w) 0)
          go false off before = rw (used-same w (omega arith), off, before)
          go true on before = rw (used-same w (omega arith), on, before, end_same w (omega arith) (six w (omega arith) on))

      pub heap-same : heap_of u ≡ heap_of t
      unfolding heap_of
      heap-same = ap (end_below u) words_same ∙ ends_same (word_count t) (omega arith)

  -- ---- structures and entries by slot, where the starts are the same

  module _ (starts : starts_of u ≡ starts_of t) where
    pub start-same : (k : ℕ) → start_of u k ≡ start_of t k
    start-same k = ap (λ (s : List ℕ). start_in s k) starts

    pub present-same : (k : ℕ) → present u k ≡ present t k
    present-same k = ap (λ (s : List ℕ). present_in s k) starts

    -- a byte and a part of a structure that lies inside
    module _ (k : ℕ) (inside : end_of t k ≤ bound) where
      pub structure-byte-same : (i : ℕ) → i < (kind_of k).length → byte u (start_of u k + i) ≡ byte t (start_of t k + i)
      unfolding end_in
      structure-byte-same i l = ap (λ (s : ℕ). byte u (s + i)) (start-same k) ∙ byte-same u t bound like (start_of t k + i) (omega arith)

      pub structure-part-same : (i m : ℕ) → i + m ≤ (kind_of k).length → part u (start_of u k + i) m ≡ part t (start_of t k + i) m
      unfolding end_in
      structure-part-same i m l =
          ap (λ (s : ℕ). part u (s + i) m) (start-same k) ∙ part_same u t bound like (start_of t k + i) m (omega arith)

    module _ (n : ℕ) (h : n < entry_count) where
      pub field-same : field_of u n ≡ field_of t n
      field-same = ap (λ (s : List ℕ). field_in s n) starts

      -- an entry whose structure lies inside
      module _ (inside : end_of t (owner_of n) ≤ bound) where
        pub size_same : size_of u n ≡ size_of t n
        unfolding size_in
        size_same = ap (word16 u) field-same ∙ word16-same u t bound like (field_of t n) (omega (arith, entry-words-le t n h))

        pub offset-same : offset_of u n ≡ offset_of t n
        unfolding offset_in
        offset-same =
            ap (λ (f : ℕ). word16 u (f + 2)) field-same ∙ word16-same u t bound like (field_of t n + 2) (omega (arith, entry-words-le t n h))

        -- and which lies inside itself
        pub entry-bytes-same : offset_of t n + size_of t n ≤ bound → part u (offset_of u n) (size_of u n) ≡ part t (offset_of t n) (size_of t n)
        entry-bytes-same l = ap₂ (part u) offset-same size_same ∙ part_same u t bound like (offset_of t n) (size_of t n) l

      pub holds_same : (present t (owner_of n) ≡ true → end_of t (owner_of n) ≤ bound) → holds_entry u n ≡ holds_entry t n
      unfolding holds_in
      holds_same inside = go (present t (owner_of n)) refl
        where
          go : (b : Bool) → present t (owner_of n) ≡ b
              → (present u (owner_of n) && (differs (size_of u n) 0 || differs (offset_of u n) 0))
              ≡ (present t (owner_of n) && (differs (size_of t n) 0 || differs (offset_of t n) 0))
          go false off = rw (present-same (owner_of n), off)
          go true on = rw (present-same (owner_of n), size_same (inside on), offset-same (inside on))
