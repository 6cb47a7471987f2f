-- The check looks at the first Length bytes only: whatever begins with them, where Length is 66 or more and the bytes are
-- there, has the same verdict. A test that looks at a place stands behind the one that puts this place below Length.
--     gather-early-same   lists by number, each the same where all before it are accepted
--     begins-verdict      the same verdict
--     verdict-cut         so where the bytes are cut behind Length does not count
--     begins-accepted     and whatever begins with an accepted table is accepted
-- Assumes nothing.
use mathlib.Core.Path.{◌≡◌, refl, sym, ap, ap₂, ◌∙◌}
use mathlib.Core.Bool.{Bool, true, false, not, cond, ◌&&◌, ◌||◌}
use mathlib.Core.List.{List, ◌++◌}
use Prim.Native.Nat.{ℕ, zero, suc, ◌+◌, ◌*◌, ◌%◌, ◌≤◌, ◌<◌}
use native.Mathlib.Decide.{dec_lt}
use native.Mathlib.Omega.{arith}
use borrow.Author.Tests.{lt-ltb, le-ltb, ltb-false, leb-false}
use lib.ListN.{length, take}
use lib.Dec.{leb, ltb, eqb}
use Rattle.octets.specs.Counting.{gather}
use Rattle.octets.specs.Octets.{byte, sum, checksum, differs}
use Rattle.hostname.specs.Hostname.{is_host_name}
use Rattle.ibft_layout.specs.Layout.{Kind, control, nic, target, slot_count, entry_count, named_count, extra_most, most_words, least_index}
use Rattle.ibft_layout.specs.Layout.{kind_of, owner_of, string_of, control_at, extensions_at, chap_at, ibft_signature, least_length}
use Rattle.table_header.specs.Verdict.{Test, refusal, first_of, refusal_with, Accepted}
use Rattle.table_header.specs.Header.{length_of, padded, header_tests}
use Rattle.ibft_table.specs.Table.{control_end_of, word_count, start_at, used_at, kind_at, index_at, end_at, heap_of, alike, extra_words, starts_of}
use Rattle.ibft_table.specs.Table.{start_in, present_in, end_in, start_of, present, end_of, size_of, offset_of, holds_entry}
use Rattle.ibft_table.specs.Check.{alien, reserved_set, alien_control, control_tests, misplaced, named_tests, twin, extra_tests, flag_tests}
use Rattle.ibft_table.specs.Check.{word_tests, overlap, overlap_tests, entry_tests, check_tests, check_of}
use Rattle.ibft_table_laws.specs.Begins.{Begins}
use Rattle.ibft_table_laws.specs.Facts.{ExtraFacts}
use Rattle.octets.proofs.CountingLaws.{clash, any_same}
use Rattle.octets.proofs.TestLaws.{same_differs}
use Rattle.octets.proofs.CountLaws.{count_same}
use Rattle.table_header.proofs.VerdictLaws.{passes, cons_same, append-same, append-passes, gather-verdict-same, gather-passes}
use Rattle.ibft_table_laws.proofs.LayoutLaws.{slot-fits, entry-fits}
use Rattle.ibft_table_laws.proofs.AcceptedLaws.{placed-facts, control-facts, extra-facts}
use Rattle.ibft_table.proofs.SeatLaws.{named-at}
use Rattle.ibft_table_laws.proofs.SeatLaws.{Extra, slot-word, slot-kind}
use Rattle.ibft_table_laws.proofs.TableLaws.{length-least, length-le, entry-owner-on}
use Rattle.ibft_table_laws.proofs.BeginsLaws.{begins-cut, byte-same, word16-same, word32-same, part_same, length-same}
use Rattle.ibft_table_laws.proofs.BeginsLaws.{control-length-same, control-end-same, words_same, at_same, used-same, kind-same}
use Rattle.ibft_table_laws.proofs.BeginsLaws.{index_same, end_same, named-kind-same, alike_same, index-test-same, starts-same}
use Rattle.ibft_table_laws.proofs.BeginsLaws.{heap-same, field-same, size_same, offset-same, entry-bytes-same, holds_same}

pub gather-early-same : (f g : ℕ → List Test) (k n : ℕ)
    → ((i : ℕ) → k ≤ i → i < k + n → ((j : ℕ) → k ≤ j → j < i → first_of (g j) ≡ Accepted) → first_of (f i) ≡ first_of (g i))
    → first_of (gather f k n) ≡ first_of (gather g k n)
unfolding gather
gather-early-same f g k zero h = refl
gather-early-same f g k (suc n) h =
    append-same (f k) (g k) (gather f (suc k) n) (gather g (suc k) n) (h k (omega arith) (omega arith) (λ j a b. absurd (omega arith)))
    (λ e. gather-early-same f g (suc k) n
    (λ i l m early. h i (omega arith) (omega arith)
    (λ j a b. elim (dec_lt k j) [
      | yes x ↦ early j (omega arith) b
      | no x ↦ let z : j ≡ k = omega arith in ap (λ (q : ℕ). first_of (g q)) z ∙ e
    ])))

-- what the named kinds, a NIC and a Target have, the kind of every word has
kind-by : (P : Kind → Type 0) → ((k : ℕ) → k < named_count → P (kind_of k)) → P nic → P target → (t : List ℕ) (w : ℕ) → P (kind_at t w)
unfolding kind_at
kind-by P named n g t w =
    elim (dec_lt w named_count) [
      | yes l ↦ rw (lt-ltb w named_count l) (named w l)
      | no l ↦ rw (le-ltb w named_count (omega arith)) (go (eqb (byte t (start_at t w)) nic.id))
    ]
  where
    go : (b : Bool) → P (cond b nic target)
    go true = n
    go false = g

pub kind-long : (t : List ℕ) (w : ℕ) → 6 ≤ (kind_at t w).length
kind-long =
    kind-by (λ (k : Kind). 6 ≤ k.length)
    (λ k l. omega (arith, (slot-fits k (omega arith)).flags, (slot-fits k (omega arith)).words)) (omega arith) (omega arith)

kind-chap : (t : List ℕ) (w : ℕ) → (kind_at t w).chap ≡ true → chap_at < (kind_at t w).length
kind-chap =
    kind-by (λ (k : Kind). k.chap ≡ true → chap_at < k.length)
    (λ k l e. omega (arith, (slot-fits k (omega arith)).chap e, (slot-fits k (omega arith)).words)) (λ e. omega arith) (λ e. omega arith)

module _ (t u : List ℕ) (least : least_length ≤ length_of t) (whole : length_of t ≤ length t) (like : Begins u t (length_of t)) where
  byte-is : (i : ℕ) → i < length_of t → byte u i ≡ byte t i
  byte-is = byte-same u t (length_of t) like

  -- ---- header and Control

  header-same : first_of (header_tests ibft_signature control_at least_length u) ≡ first_of (header_tests ibft_signature control_at least_length t)
  unfolding header_tests
  header-same =
      let long = like.long in
      let len = length-same t u (length_of t) least like in
      let lent : ltb (length u) 48 ≡ ltb (length t) 48 = le-ltb (length u) 48 (omega arith) ∙ sym (le-ltb (length t) 48 (omega arith)) in
      let there : ltb (length u) (length_of u) ≡ ltb (length t) (length_of t) =
      le-ltb (length u) (length_of u) (omega arith) ∙ sym (le-ltb (length t) (length_of t) whole) in
      let summed : take (length_of u) u ≡ take (length_of t) t = ap (λ (l : ℕ). take l u) len ∙ like.same in
      cons_same _ _ _ _ lent refl
      (λ e1. cons_same _ _ _ _ (ap (λ (w : ℕ). differs w ibft_signature) (word32-same u t (length_of t) like 0 (omega arith))) refl
      (λ e2. cons_same _ _ _ _ (ap (λ (l : ℕ). ltb l least_length) len) refl
      (λ e3. cons_same _ _ _ _ there refl
      (λ e4. cons_same _ _ _ _ (ap (λ (x : List ℕ). differs (sum x % 256) 0) summed)
      (ap (λ (x : List ℕ). refusal_with 6 9 (checksum x 9)) summed)
      (λ e5. cons_same _ _ _ _ (ap (λ (b : ℕ). differs b 1) (byte-is 8 (omega arith))) refl
      (λ e6. cons_same _ _ _ _ (ap (λ (x : List ℕ). not (padded x)) (part_same u t (length_of t) like 10 6 (omega arith))) refl
      (λ e7. cons_same _ _ _ _ (ap (λ (x : List ℕ). not (padded x)) (part_same u t (length_of t) like 16 8 (omega arith))) refl (λ e8. refl))))))))

  alien-same : (s : ℕ) (kind : Kind) (index : ℕ) → s + 5 ≤ length_of t → alien u s kind index ≡ alien t s kind index
  unfolding alien
  alien-same s kind index h =
      ap₂ ◌||◌ (ap (λ (b : ℕ). differs b kind.id) (byte-is s (omega arith)))
      (ap₂ ◌||◌ (ap (λ (b : ℕ). differs b kind.version) (byte-is (s + 1) (omega arith)))
      (ap₂ ◌||◌ (ap (λ (w : ℕ). differs w kind.length) (word16-same u t (length_of t) like (s + 2) (omega arith)))
      (ap (λ (b : ℕ). differs b index) (byte-is (s + 4) (omega arith)))))

  control-same : first_of (control_tests u) ≡ first_of (control_tests t)
  unfolding control_tests alien_control
  control-same =
      let len = control-length-same t u (length_of t) least like in
      cons_same _ _ _ _
      (ap₂ ◌||◌ (ap (λ (b : ℕ). differs b 1) (byte-is control_at (omega arith)))
      (ap₂ ◌||◌ (ap (λ (b : ℕ). differs b 1) (byte-is (control_at + 1) (omega arith)))
      (ap₂ ◌||◌ (ap (λ (b : ℕ). differs b 0) (byte-is (control_at + 4) (omega arith)))
      (ap₂ ◌||◌ (ap (λ (l : ℕ). ltb l control.length) len)
      (ap₂ ◌||◌ (ap (λ (l : ℕ). ltb (control.length + 2 * most_words) l) len)
      (ap₂ ◌||◌ (ap (λ (l : ℕ). differs (l % 2) 0) len) (ap₂ ltb (length-same t u (length_of t) least like) (control-end-same t u (length_of t) least like))))))))
      refl
      (λ e1. cons_same _ _ _ _ (ap (λ (b : ℕ). reserved_set b control) (byte-is (control_at + 5) (omega arith))) refl
      (λ e2. cons_same _ _ _ _ (ap (λ (w : ℕ). differs w 0) (word16-same u t (length_of t) like extensions_at (omega arith))) refl (λ e3. refl)))

  -- ---- words, where Control lies inside

  module _ (inside : control_end_of t ≤ length_of t) where
    -- where a word's own tests are accepted its structure lies inside
    front-inside : (w : ℕ) → first_of (cond (ltb w named_count) (named_tests t w) (extra_tests t w)) ≡ Accepted → end_at t w ≤ length_of t
    unfolding named_tests extra_tests end_at
    front-inside w e =
        elim (dec_lt w named_count) [
          | yes l ↦ (placed-facts t w (kind_at t w).length (passes _ _ (rw (lt-ltb w named_count l) at e)).0).2
          | no l ↦
              let a = passes _ _ (rw (le-ltb w named_count (omega arith)) at e) in
              ltb-false (length_of t) (end_at t w) (passes _ _ (passes _ _ a.1).1).0
        ]

    six-inside : (w : ℕ) → end_at t w ≤ length_of t → start_at t w + 6 ≤ length_of t
    unfolding end_at
    six-inside w h = omega (arith, kind-long t w)

    word-inside : (w : ℕ) → first_of (word_tests t w) ≡ Accepted → used_at t w ≡ true → end_at t w ≤ length_of t
    unfolding word_tests
    word-inside w e on = front-inside w (append-passes (cond (ltb w named_count) (named_tests t w) (extra_tests t w)) _ (rw on at e)).0

    module _ (w : ℕ) (h : w < word_count t) where
      start : start_at u w ≡ start_at t w
      start = at_same t u (length_of t) least like inside w h

      misplaced-same : (size size' : ℕ) → size ≡ size' → misplaced u w size ≡ misplaced t w size'
      unfolding misplaced
      misplaced-same size size' is =
          ap₂ ◌||◌ (ap (λ (s : ℕ). differs (s % 8) 0) start)
          (ap₂ ◌||◌ (ap₂ ltb start (control-end-same t u (length_of t) least like)) (ap₂ ltb (length-same t u (length_of t) least like) (ap₂ ◌+◌ start is)))

      -- what stands at its start, where the first six bytes are inside
      alien-at : start_at t w + 6 ≤ length_of t → alien u (start_at u w) (kind_at u w) (index_at u w) ≡ alien t (start_at t w) (kind_at t w) (index_at t w)
      alien-at six =
          ap (λ (s : ℕ). alien u s (kind_at u w) (index_at u w)) start
          ∙ ap₂ (alien u (start_at t w)) (kind-same t u (length_of t) least like inside w h six) (index_same t u (length_of t) least like inside w h six)
          ∙ alien-same (start_at t w) (kind_at t w) (index_at t w) (omega arith)

      named-same : w < named_count → first_of (named_tests u w) ≡ first_of (named_tests t w)
      unfolding named_tests end_at
      named-same l =
          cons_same _ _ _ _
          (misplaced-same (kind_at u w).length (kind_at t w).length
          (ap (λ (k : Kind). k.length) (named-kind-same t u (length_of t) least like inside w h l)))
          refl
          (λ e1.
          let six = six-inside w (placed-facts t w (kind_at t w).length e1).2 in
          cons_same _ _ _ _ (alien-at six) (ap (refusal 13) start) (λ e2. refl))

      extra-same : ((v : ℕ) → v < w → used_at t v ≡ true → start_at t v + 6 ≤ length_of t) → first_of (extra_tests u w) ≡ first_of (extra_tests t w)
      unfolding extra_tests twin
      extra-same early =
          cons_same _ _ _ _ (misplaced-same 6 6 refl) refl
          (λ e1.
          let six = (placed-facts t w 6 e1).2 in
          cons_same _ _ _ _
          (ap₂ ◌||◌ (alien-at six) (ap (λ (i : ℕ). ltb i least_index) (index_same t u (length_of t) least like inside w h six)))
          (ap (refusal 13) start)
          (λ e2. cons_same _ _ _ _ (ap₂ ltb (length-same t u (length_of t) least like) (end_same t u (length_of t) least like inside w h six)) refl
          (λ e3. cons_same _ _ _ _
          (any_same w (twin u w) (twin t w) (λ v l. index-test-same t u (length_of t) least like inside w (omega arith) early eqb w v l h six))
          refl
          (λ e4. cons_same _ _ _ _
          (ap (leb extra_most) (count_same w (alike u w) (alike t w) (λ v l. alike_same t u (length_of t) least like inside w (omega arith) early w v l h six)))
          refl
          (λ e5. refl)))))

      front_same : ((v : ℕ) → v < w → used_at t v ≡ true → start_at t v + 6 ≤ length_of t)
          → first_of (cond (ltb w named_count) (named_tests u w) (extra_tests u w)) ≡ first_of (cond (ltb w named_count) (named_tests t w) (extra_tests t w))
      front_same early =
          elim (dec_lt w named_count) [
            | yes l ↦ rw (lt-ltb w named_count l) (named-same l)
            | no l ↦ rw (le-ltb w named_count (omega arith)) (extra-same early)
          ]

      flags-same : end_at t w ≤ length_of t → first_of (flag_tests u w) ≡ first_of (flag_tests t w)
      unfolding flag_tests end_at
      flags-same whole =
          let six = six-inside w whole in
          let kind = kind-same t u (length_of t) least like inside w h six in
          let flag : byte u (start_at u w + 5) ≡ byte t (start_at t w + 5) = ap (λ (s : ℕ). byte u (s + 5)) start ∙ byte-is (start_at t w + 5) (omega arith) in
          cons_same _ _ _ _ (ap₂ reserved_set flag kind) (ap (λ (s : ℕ). refusal 10 (s + 5)) start)
          (λ e1. cons_same _ _ _ _
          (ap (λ (k : Kind). k.chap && ltb 2 (byte u (start_at u w + chap_at))) kind ∙ has (kind_at t w).chap refl)
          (ap (λ (s : ℕ). refusal 19 (s + chap_at)) start)
          (λ e2. refl))
        where
          has : (b : Bool) → (kind_at t w).chap ≡ b
              → ((kind_at t w).chap && ltb 2 (byte u (start_at u w + chap_at))) ≡ ((kind_at t w).chap && ltb 2 (byte t (start_at t w + chap_at)))
          has false e = rw e
          has true e =
              ap (λ (b : ℕ). (kind_at t w).chap && ltb 2 b)
              (ap (λ (s : ℕ). byte u (s + chap_at)) start ∙ byte-is (start_at t w + chap_at) (omega (arith, kind-chap t w e)))

      word_same : ((v : ℕ) → v < w → used_at t v ≡ true → start_at t v + 6 ≤ length_of t) → first_of (word_tests u w) ≡ first_of (word_tests t w)
      unfolding word_tests
      word_same early = go (used_at t w) refl
        where
          go : (b : Bool) → used_at t w ≡ b → first_of (word_tests u w) ≡ first_of (word_tests t w)
          go false off = rw (used-same t u (length_of t) least like inside w h, off)
          go true on =
              rw (used-same t u (length_of t) least like inside w h, on)
              (append-same (cond (ltb w named_count) (named_tests u w) (extra_tests u w)) (cond (ltb w named_count) (named_tests t w) (extra_tests t w)) _ _
              (front_same early)
              (λ e. flags-same (front-inside w e)))

    -- ---- overlaps, where all used words have their first six bytes inside

    module _ (six : (w : ℕ) → w < word_count t → used_at t w ≡ true → start_at t w + 6 ≤ length_of t) (w : ℕ) (h : w < word_count t) where
      pair : (v : ℕ) → v < w → overlap u w v ≡ overlap t w v
      unfolding overlap
      pair v l = go (used_at t v) (used_at t w) refl refl
        where
          hv : v < word_count t
          hv = omega arith

          go : (a b : Bool) → used_at t v ≡ a → used_at t w ≡ b
              → (used_at u v && (used_at u w && (ltb (start_at u v) (end_at u w) && ltb (start_at u w) (end_at u v))))
              ≡ (used_at t v && (used_at t w && (ltb (start_at t v) (end_at t w) && ltb (start_at t w) (end_at t v))))
          go false b p q = rw (used-same t u (length_of t) least like inside v hv, p)
          go true false p q = rw (used-same t u (length_of t) least like inside v hv, used-same t u (length_of t) least like inside w h, p, q)
          go true true p q =
              ap₂ ◌&&◌ (used-same t u (length_of t) least like inside v hv)
              (ap₂ ◌&&◌ (used-same t u (length_of t) least like inside w h)
              (ap₂ ◌&&◌
              (ap₂ ltb (at_same t u (length_of t) least like inside v hv) (end_same t u (length_of t) least like inside w h (six w h q)))
              (ap₂ ltb (at_same t u (length_of t) least like inside w h) (end_same t u (length_of t) least like inside v hv (six v hv p)))))

      overlaps-same : first_of (overlap_tests u w) ≡ first_of (overlap_tests t w)
      unfolding overlap_tests
      overlaps-same = cons_same _ _ _ _ (any_same w (overlap u w) (overlap t w) pair) refl (λ e. refl)

  -- ---- entries, where all structures lie inside

  module _ (starts : starts_of u ≡ starts_of t) (heap : heap_of u ≡ heap_of t)
      (inside : (k : ℕ) → k < slot_count → present t k ≡ true → end_of t k ≤ length_of t) (n : ℕ) (h : n < entry_count)
    where
      entry-same : first_of (entry_tests (starts_of u) u n) ≡ first_of (entry_tests (starts_of t) t n)
      unfolding entry_tests
      entry-same = go (holds_entry t n) refl
        where
          owned : present t (owner_of n) ≡ true → end_of t (owner_of n) ≤ length_of t
          owned = inside (owner_of n) (entry-fits n h).owner

          go : (b : Bool) → holds_entry t n ≡ b → first_of (entry_tests (starts_of u) u n) ≡ first_of (entry_tests (starts_of t) t n)
          go false off = rw (holds_same t u (length_of t) least like starts n h owned, off)
          go true on =
              let own = owned (entry-owner-on t n on) in
              let len = length-same t u (length_of t) least like in
              let offset = offset-same t u (length_of t) least like starts n h own in
              let size = size_same t u (length_of t) least like starts n h own in
              let end : offset_of u n + size_of u n ≡ offset_of t n + size_of t n = ap₂ ◌+◌ offset size in
              let field = field-same t u (length_of t) least like starts n h in
              rw (holds_same t u (length_of t) least like starts n h owned, on)
              (cons_same _ _ _ _ (ap₂ ltb offset heap) (ap (refusal 15) field)
              (λ e1. cons_same _ _ _ _ (ap₂ ltb len end) (ap (refusal 15) field)
              (λ e2. cons_same _ _ _ _ (ap₂ (λ (s o : ℕ). differs s 0 && eqb o 0) size offset) (ap (refusal 15) field)
              (λ e3. cons_same _ _ _ _ (ap₂ leb len end) (ap (refusal 16) field)
              (λ e4.
              let below = leb-false (length_of t) (offset_of t n + size_of t n) e4 in
              cons_same _ _ _ _
              (ap (λ (i : ℕ). differs (byte u i) 0) end ∙ ap (λ (b : ℕ). differs b 0) (byte-is (offset_of t n + size_of t n) below))
              (ap (refusal 16) field)
              (λ e5. cons_same _ _ _ _ (ap (ltb (string_of n).longest) size) (ap (refusal 17) field)
              (λ e6. cons_same _ _ _ _
              (ap (λ (x : List ℕ). (string_of n).host && not (is_host_name x)) (entry-bytes-same t u (length_of t) least like starts n h own (omega arith)))
              (ap (refusal 18) field)
              (λ e7. refl))))))))

  -- ---- all of it

  -- a structure present lies inside, where each word's does and the extras' slots are their own
  slot-inside : ((w : ℕ) → named_count ≤ w → w < word_count t → used_at t w ≡ true → ExtraFacts t w)
      → ((w : ℕ) → w < word_count t → used_at t w ≡ true → end_at t w ≤ length_of t)
      → (k : ℕ) → k < slot_count → present t k ≡ true → end_of t k ≤ length_of t
  unfolding end_in end_at present_in start_in starts_of used_at word_count kind_at
  slot-inside extra whole k h on =
      elim (dec_lt k named_count) [
        | yes l ↦
            let same : start_of t k ≡ start_at t k = named-at t (extra_words t) k l in
            let used : used_at t k ≡ true = ap (λ (s : ℕ). differs s 0) (sym same) ∙ on in
            let kind : kind_at t k ≡ kind_of k = rw (lt-ltb k named_count l) in
            omega (arith, same, whole k (omega arith) used, ap (λ (κ : Kind). κ.length) kind)
        | no l ↦
            let w = slot-word t (extra_words t) k (omega arith) (λ z. clash on (same_differs (start_of t k) 0 z)) in
            let x : Extra t extra w.word = record { low = w.low; high = w.high; used = w.used } in
            let kind : kind_of k ≡ kind_at t w.word = ap kind_of (sym w.seat) ∙ slot-kind t extra w.word x in
            omega (arith, w.start, whole w.word w.high w.used, ap (λ (κ : Kind). κ.length) kind)
      ]

  -- where header, Control and words are accepted, the rest looks inside only
  rest-same : control_end_of t ≤ length_of t → first_of (gather (word_tests t) 0 (word_count t)) ≡ Accepted
      → first_of (gather (overlap_tests u) 0 (word_count u) ++ gather (entry_tests (starts_of u) u) 0 entry_count)
      ≡ first_of (gather (overlap_tests t) 0 (word_count t) ++ gather (entry_tests (starts_of t) t) 0 entry_count)
  rest-same inside words =
      let each : (w : ℕ) → w < word_count t → first_of (word_tests t w) ≡ Accepted =
      λ w h. gather-passes (word_tests t) (word_count t) 0 w words (omega arith) (omega arith) in
      let whole : (w : ℕ) → w < word_count t → used_at t w ≡ true → end_at t w ≤ length_of t = λ w h on. word-inside inside w (each w h) on in
      let six : (w : ℕ) → w < word_count t → used_at t w ≡ true → start_at t w + 6 ≤ length_of t = λ w h on. six-inside inside w (whole w h on) in
      let starts = starts-same t u (length_of t) least like inside six in
      let heap = heap-same t u (length_of t) least like inside six in
      append-same (gather (overlap_tests u) 0 (word_count u)) (gather (overlap_tests t) 0 (word_count t)) _ _
      (ap (λ (n : ℕ). first_of (gather (overlap_tests u) 0 n)) (words_same t u (length_of t) least like)
      ∙ gather-verdict-same (overlap_tests u) (overlap_tests t) 0 (word_count t) (λ w l h. overlaps-same inside six w (omega arith)))
      (λ e. gather-verdict-same (entry_tests (starts_of u) u) (entry_tests (starts_of t) t) 0 entry_count
      (λ n l h. entry-same starts heap (slot-inside (λ w low h on. extra-facts t w (each w h) low on) whole) n (omega arith)))

  words-verdict : control_end_of t ≤ length_of t → first_of (gather (word_tests u) 0 (word_count u)) ≡ first_of (gather (word_tests t) 0 (word_count t))
  words-verdict inside =
      ap (λ (n : ℕ). first_of (gather (word_tests u) 0 n)) (words_same t u (length_of t) least like)
      ∙ gather-early-same (word_tests u) (word_tests t) 0 (word_count t)
      (λ w l h early. word_same inside w (omega arith) (λ v b on. six-inside inside v (word-inside inside v (early v (omega arith) b) on)))

  pub begins-verdict : check_of u ≡ check_of t
  unfolding check_of check_tests
  begins-verdict =
      append-same (header_tests ibft_signature control_at least_length u) (header_tests ibft_signature control_at least_length t) _ _ header-same
      (λ e1. append-same (control_tests u) (control_tests t) _ _ control-same
      (λ e2.
      let inside = (control-facts t e2).inside in
      append-same (gather (word_tests u) 0 (word_count u)) (gather (word_tests t) 0 (word_count t)) _ _ (words-verdict inside) (rest-same inside)))

pub begins-accepted : (t u : List ℕ) → check_of t ≡ Accepted → Begins u t (length_of t) → check_of u ≡ Accepted
begins-accepted t u ok like = begins-verdict t u (length-least t ok) (length-le t ok) like ∙ ok

pub verdict-cut : (t : List ℕ) (m : ℕ) → least_length ≤ length_of t → length_of t ≤ length t → length_of t ≤ m → check_of (take m t) ≡ check_of t
verdict-cut t m least whole h = begins-verdict t (take m t) least whole (begins-cut t (length_of t) m h whole)
