-- A table is accepted exactly where its facts hold: each group of tests against its record of facts, then all of them.
--     header-facts, header-accepted, ..     a group of tests against its facts
--     accepted-tests, tests-accepted        the check against its groups
--     accepted-facts, facts-accepted        the check against all facts
-- Assumes nothing.
use mathlib.Core.Path.{◌≡◌, refl, ap, ◌∙◌}
use mathlib.Core.Logic.{inl, inr, ⊎_elim}
use mathlib.Core.Bool.{Bool, true, false, not, cond}
use mathlib.Core.List.{List}
use Prim.Native.Nat.{ℕ, ◌+◌, ◌*◌, ◌%◌, ◌≤◌, ◌<◌}
use native.Mathlib.Decide.{dec_lt}
use native.Mathlib.Omega.{arith}
use borrow.Author.Tests.{ltb-false, ltb-true, le-ltb, lt-ltb, leb-false, lt-leb, eq-eqb, ne_eqb, not-false}
use lib.ListN.{length, take}
use lib.Dec.{eqb, ltb}
use lib.Bits.{bit_and}
use Rattle.octets.specs.Counting.{count, gather}
use Rattle.octets.specs.Octets.{byte, word16, word32, part, sum, differs}
use Rattle.octets.proofs.CountingLaws.{clash, any_none, any-no}
use Rattle.ibft_layout.specs.Layout.{Kind, control, nic, target, named_count, extra_most, least_index, most_words, control_at, extensions_at}
use Rattle.ibft_layout.specs.Layout.{chap_at, entry_count, string_of, ibft_signature, least_length}
use Rattle.table_header.specs.Verdict.{first_of, Accepted}
use Rattle.table_header.specs.Header.{length_of, padded, header_tests}
use Rattle.ibft_table.specs.Table.{control_length, control_end_of, word_count, start_at, used_at, kind_at, index_at, end_at, alike, heap_of, starts_of}
use Rattle.ibft_table.specs.Table.{size_of, offset_of, holds_entry}
use Rattle.ibft_table.specs.Check.{alien, alien_control, reserved_set, control_tests, misplaced, named_tests, extra_tests, flag_tests, twin}
use Rattle.ibft_table.specs.Check.{word_tests, overlap, overlap_tests, entry_tests, check_tests, check_of}
use Rattle.ibft_table_laws.specs.Facts.{HeaderFacts, StartFacts, ControlFacts, WordFacts, ExtraFacts, EntryFacts, Apart, Facts}
use Rattle.octets.proofs.TestLaws.{and-other, and_no, or-both, or_no, differs-no, same_differs}
use Rattle.ibft_table.proofs.CheckLaws.{heap-after-control}
use Rattle.table_header.proofs.VerdictLaws.{passes, accept-cons, accept-none, append-accepted, append-passes, gather-passes, gather-accepts}

module _ (signature least_lent least_length : ℕ) (t : List ℕ) where
  pub header-facts : first_of (header_tests signature least_lent least_length t) ≡ Accepted → HeaderFacts signature least_lent least_length t
  unfolding header_tests
  header-facts e =
      let a = passes _ _ e in
      let b = passes _ _ a.1 in
      let c = passes _ _ b.1 in
      let d = passes _ _ c.1 in
      let f = passes _ _ d.1 in
      let g = passes _ _ f.1 in
      let h = passes _ _ g.1 in
      let i = passes _ _ h.1 in
      record {
        lent = ltb-false (length t) least_lent a.0;
        signed = differs-no (word32 t 0) signature b.0;
        long = ltb-false (length_of t) least_length c.0;
        whole = ltb-false (length t) (length_of t) d.0;
        sums = differs-no (sum (take (length_of t) t) % 256) 0 f.0;
        revision = differs-no (byte t 8) 1 g.0;
        oem-id = not-false (padded (part t 10 6)) h.0;
        oem-table-id = not-false (padded (part t 16 8)) i.0;
      }

  pub header-accepted : HeaderFacts signature least_lent least_length t → first_of (header_tests signature least_lent least_length t) ≡ Accepted
  unfolding header_tests
  header-accepted h =
      accept-cons _ _ (le-ltb (length t) least_lent h.lent)
      (accept-cons _ _ (same_differs (word32 t 0) signature h.signed)
      (accept-cons _ _ (le-ltb (length_of t) least_length h.long)
      (accept-cons _ _ (le-ltb (length t) (length_of t) h.whole)
      (accept-cons _ _ (same_differs (sum (take (length_of t) t) % 256) 0 h.sums)
      (accept-cons _ _ (same_differs (byte t 8) 1 h.revision)
      (accept-cons _ _ (ap not h.oem-id)
      (accept-cons _ _ (ap not h.oem-table-id) accept-none)))))))

-- a structure's start, which Control has too
module _ (t : List ℕ) (start : ℕ) (kind : Kind) (index : ℕ) where
  start-facts : alien t start kind index ≡ false → reserved_set (byte t (start + 5)) kind ≡ false → StartFacts t start kind index
  unfolding alien reserved_set
  start-facts e f =
      let a = or-both (differs (byte t start) kind.id) _ e in
      let b = or-both (differs (byte t (start + 1)) kind.version) _ a.1 in
      let c = or-both (differs (word16 t (start + 2)) kind.length) _ b.1 in
      record {
        id = differs-no (byte t start) kind.id a.0;
        version = differs-no (byte t (start + 1)) kind.version b.0;
        length-is = differs-no (word16 t (start + 2)) kind.length c.0;
        index_is = differs-no (byte t (start + 4)) index c.1;
        reserved = differs-no (bit_and (byte t (start + 5)) kind.reserved) 0 f;
      }

  start-passes : StartFacts t start kind index → (alien t start kind index ≡ false) × (reserved_set (byte t (start + 5)) kind ≡ false)
  unfolding alien reserved_set
  start-passes s = (
    or_no _ _ (same_differs (byte t start) kind.id s.id)
        (or_no _ _ (same_differs (byte t (start + 1)) kind.version s.version)
        (or_no _ _ (same_differs (word16 t (start + 2)) kind.length s.length-is) (same_differs (byte t (start + 4)) index s.index_is))),
    same_differs (bit_and (byte t (start + 5)) kind.reserved) 0 s.reserved,
  )

module _ (t : List ℕ) where
  pub control-facts : first_of (control_tests t) ≡ Accepted → ControlFacts t
  unfolding control_tests alien_control reserved_set
  control-facts e =
      let a = passes _ _ e in
      let b = passes _ _ a.1 in
      let c = passes _ _ b.1 in
      let p = or-both (differs (byte t control_at) control.id) _ a.0 in
      let q = or-both (differs (byte t (control_at + 1)) control.version) _ p.1 in
      let r = or-both (differs (byte t (control_at + 4)) 0) _ q.1 in
      let u = or-both (ltb (control_length t) control.length) _ r.1 in
      let v = or-both (ltb (control.length + 2 * most_words) (control_length t)) _ u.1 in
      let w = or-both (differs (control_length t % 2) 0) _ v.1 in
      record {
        id = differs-no (byte t control_at) control.id p.0;
        version = differs-no (byte t (control_at + 1)) control.version q.0;
        index_is = differs-no (byte t (control_at + 4)) 0 r.0;
        long = ltb-false (control_length t) control.length u.0;
        short = ltb-false (control.length + 2 * most_words) (control_length t) v.0;
        even = differs-no (control_length t % 2) 0 w.0;
        inside = ltb-false (length_of t) (control_end_of t) w.1;
        reserved = differs-no (bit_and (byte t (control_at + 5)) control.reserved) 0 b.0;
        extensions = differs-no (word16 t extensions_at) 0 c.0;
      }

  pub control-accepted : ControlFacts t → first_of (control_tests t) ≡ Accepted
  unfolding control_tests alien_control reserved_set
  control-accepted c =
      accept-cons _ _
      (or_no _ _ (same_differs (byte t control_at) control.id c.id)
      (or_no _ _ (same_differs (byte t (control_at + 1)) control.version c.version)
      (or_no _ _ (same_differs (byte t (control_at + 4)) 0 c.index_is)
      (or_no _ _ (le-ltb (control_length t) control.length c.long)
      (or_no _ _ (le-ltb (control.length + 2 * most_words) (control_length t) c.short)
      (or_no _ _ (same_differs (control_length t % 2) 0 c.even) (le-ltb (length_of t) (control_end_of t) c.inside)))))))
      (accept-cons _ _ (same_differs (bit_and (byte t (control_at + 5)) control.reserved) 0 c.reserved)
      (accept-cons _ _ (same_differs (word16 t extensions_at) 0 c.extensions) accept-none))

  module _ (k : ℕ) where
    pub placed-facts : (size : ℕ) → misplaced t k size ≡ false → (start_at t k % 8 ≡ 0) × (control_end_of t ≤ start_at t k) × (start_at t k + size ≤ length_of t)
    unfolding misplaced
    placed-facts size e =
        let m = or-both (differs (start_at t k % 8) 0) _ e in
        let n = or-both (ltb (start_at t k) (control_end_of t)) _ m.1 in
        (differs-no (start_at t k % 8) 0 m.0, ltb-false (start_at t k) (control_end_of t) n.0, ltb-false (length_of t) (start_at t k + size) n.1)

    placed-no : (size : ℕ) → start_at t k % 8 ≡ 0 → control_end_of t ≤ start_at t k → start_at t k + size ≤ length_of t → misplaced t k size ≡ false
    unfolding misplaced
    placed-no size a b c =
        or_no _ _ (same_differs (start_at t k % 8) 0 a) (or_no _ _ (le-ltb (start_at t k) (control_end_of t) b) (le-ltb (length_of t) (start_at t k + size) c))

    -- what both named and extra words say of the place
    record Placed : Type 0 where
      aligned : start_at t k % 8 ≡ 0
      least : control_end_of t ≤ start_at t k
      inside : end_at t k ≤ length_of t
      known : alien t (start_at t k) (kind_at t k) (index_at t k) ≡ false

    named-placed : first_of (named_tests t k) ≡ Accepted → Placed
    unfolding named_tests end_at
    named-placed e =
        let a = passes _ _ e in
        let b = passes _ _ a.1 in
        let p = placed-facts (kind_at t k).length a.0 in
        record { aligned = p.0; least = p.1; inside = p.2; known = b.0 }

    extra-placed : first_of (extra_tests t k) ≡ Accepted → Placed
    unfolding extra_tests
    extra-placed e =
        let a = passes _ _ e in
        let b = passes _ _ a.1 in
        let c = passes _ _ b.1 in
        let p = placed-facts 6 a.0 in
        record {
          aligned = p.0;
          least = p.1;
          inside = ltb-false (length_of t) (end_at t k) c.0;
          known = (or-both (alien t (start_at t k) (kind_at t k) (index_at t k)) _ b.0).0;
        }

    extra-facts' : first_of (extra_tests t k) ≡ Accepted → ExtraFacts t k
    unfolding extra_tests twin
    extra-facts' e =
        let a = passes _ _ e in
        let b = passes _ _ a.1 in
        let c = passes _ _ b.1 in
        let d = passes _ _ c.1 in
        let f = passes _ _ d.1 in
        record {
          index-least = ltb-false (index_at t k) least_index (or-both (alien t (start_at t k) (kind_at t k) (index_at t k)) _ b.0).1;
          own-index = λ v h same e. clash (eq-eqb (index_at t v) (index_at t k) e) (and-other (alike t k v) _ (any_none k (twin t k) d.0 v h) same);
          few = leb-false extra_most (count k (alike t k)) f.0;
        }

    word-parts : first_of (word_tests t k) ≡ Accepted → used_at t k ≡ true
        → (first_of (cond (ltb k named_count) (named_tests t k) (extra_tests t k)) ≡ Accepted) × (first_of (flag_tests t k) ≡ Accepted)
    unfolding word_tests
    word-parts e on = append-passes (cond (ltb k named_count) (named_tests t k) (extra_tests t k)) (flag_tests t k) (rw on at e)

    pub word-facts : first_of (word_tests t k) ≡ Accepted → used_at t k ≡ true → WordFacts t k
    unfolding flag_tests
    word-facts e on =
        let q = word-parts e on in
        let c = passes _ _ q.1 in
        let d = passes _ _ c.1 in
        let p = go (ltb k named_count) q.0 in
        record {
          aligned = p.aligned;
          least = p.least;
          inside = p.inside;
          starts = start-facts t (start_at t k) (kind_at t k) (index_at t k) p.known c.0;
          chap = λ has. ltb-false 2 (byte t (start_at t k + chap_at)) (and-other (kind_at t k).chap _ d.0 has);
        }
      where
        go : (b : Bool) → first_of (cond b (named_tests t k) (extra_tests t k)) ≡ Accepted → Placed
        go true e = named-placed e
        go false e = extra-placed e

    pub extra-facts : first_of (word_tests t k) ≡ Accepted → named_count ≤ k → used_at t k ≡ true → ExtraFacts t k
    extra-facts e low on = extra-facts' (rw (le-ltb k named_count low) at (word-parts e on).0)

    -- a NIC or a target has six bytes and more
    long : named_count ≤ k → 6 ≤ (kind_at t k).length
    unfolding kind_at
    long low = rw (le-ltb k named_count low) (go (eqb (byte t (start_at t k)) nic.id))
      where
        go : (b : Bool) → 6 ≤ (cond b nic target).length
        go true = omega arith
        go false = omega arith

    named-accepted : WordFacts t k → first_of (named_tests t k) ≡ Accepted
    unfolding named_tests end_at
    named-accepted s =
        accept-cons _ _ (placed-no (kind_at t k).length s.aligned s.least s.inside)
        (accept-cons _ _ (start-passes t (start_at t k) (kind_at t k) (index_at t k) s.starts).0 accept-none)

    extra-accepted : WordFacts t k → named_count ≤ k → ExtraFacts t k → first_of (extra_tests t k) ≡ Accepted
    unfolding extra_tests twin end_at
    extra-accepted s low x =
        let inside = s.inside in
        accept-cons _ _ (placed-no 6 s.aligned s.least (omega (arith, long low)))
        (accept-cons _ _ (or_no _ _ (start-passes t (start_at t k) (kind_at t k) (index_at t k) s.starts).0 (le-ltb (index_at t k) least_index x.index-least))
        (accept-cons _ _ (le-ltb (length_of t) (end_at t k) inside)
        (accept-cons _ _ (any-no k (twin t k) (λ v h. and_no (alike t k v) _ (λ same. ne_eqb (index_at t v) (index_at t k) (x.own-index v h same))))
        (accept-cons _ _ (lt-leb extra_most (count k (alike t k)) x.few) accept-none))))

    flags-accepted : WordFacts t k → first_of (flag_tests t k) ≡ Accepted
    unfolding flag_tests
    flags-accepted s =
        accept-cons _ _ (start-passes t (start_at t k) (kind_at t k) (index_at t k) s.starts).1
        (accept-cons _ _ (and_no (kind_at t k).chap _ (λ has. le-ltb 2 (byte t (start_at t k + chap_at)) (s.chap has))) accept-none)

    pub word-accepted : (used_at t k ≡ true → WordFacts t k) → (named_count ≤ k → used_at t k ≡ true → ExtraFacts t k) → first_of (word_tests t k) ≡ Accepted
    unfolding word_tests
    word-accepted h x = go (used_at t k) refl
      where
        first : WordFacts t k → used_at t k ≡ true → (b : Bool) → ltb k named_count ≡ b → first_of (cond b (named_tests t k) (extra_tests t k)) ≡ Accepted
        first s on true e = named-accepted s
        first s on false e = extra-accepted s (ltb-false k named_count e) (x (ltb-false k named_count e) on)

        go : (b : Bool) → used_at t k ≡ b → first_of (word_tests t k) ≡ Accepted
        go false off = rw off accept-none
        go true on =
            rw on
            (append-accepted (cond (ltb k named_count) (named_tests t k) (extra_tests t k)) (flag_tests t k) (first (h on) on (ltb k named_count) refl)
            ∙ flags-accepted (h on))

    pub overlap-facts : first_of (overlap_tests t k) ≡ Accepted → (i : ℕ) → i < k → used_at t i ≡ true → used_at t k ≡ true → Apart t i k
    unfolding overlap_tests overlap
    overlap-facts e i h oni onk =
        let none = any_none k (overlap t k) (passes _ _ e).0 i h in
        let a = and-other (used_at t k) _ (and-other (used_at t i) _ none oni) onk in
        elim (dec_lt (start_at t i) (end_at t k)) [
          | yes l ↦ inl (ltb-false (start_at t k) (end_at t i) (and-other _ _ a (lt-ltb (start_at t i) (end_at t k) l)))
          | no l ↦ inr (omega arith)
        ]

    pub overlap-accepted : ((i : ℕ) → i < k → used_at t i ≡ true → used_at t k ≡ true → Apart t i k) → first_of (overlap_tests t k) ≡ Accepted
    unfolding overlap_tests overlap
    overlap-accepted apart =
        accept-cons _ _
        (any-no k (overlap t k)
        (λ i h. and_no (used_at t i) _ (λ oni. and_no (used_at t k) _ (λ onk. and_no (ltb (start_at t i) (end_at t k)) _ (λ l.
        le-ltb (start_at t k) (end_at t i) (⊎_elim (λ x. x) (λ x. absurd (omega (arith, x, ltb-true (start_at t i) (end_at t k) l))) (apart i h oni onk)))))))
        accept-none

    pub entry-facts : first_of (entry_tests (starts_of t) t k) ≡ Accepted → holds_entry t k ≡ true → EntryFacts t k
    unfolding entry_tests
    entry-facts e on =
        let a = passes _ _ (rw on at e) in
        let b = passes _ _ a.1 in
        let c = passes _ _ b.1 in
        let d = passes _ _ c.1 in
        let f = passes _ _ d.1 in
        let g = passes _ _ f.1 in
        let h = passes _ _ g.1 in
        record {
          low = ltb-false (offset_of t k) (heap_of t) a.0;
          high = leb-false (length_of t) (offset_of t k + size_of t k) d.0;
          ends = differs-no (byte t (offset_of t k + size_of t k)) 0 f.0;
          longest = ltb-false (string_of k).longest (size_of t k) g.0;
          host = λ is. not-false _ (and-other (string_of k).host _ h.0 is);
        }

    -- no heap starts at 0, so a length without an offset is an offset below the heap
    pub entry-accepted : 0 < heap_of t → (holds_entry t k ≡ true → EntryFacts t k) → first_of (entry_tests (starts_of t) t k) ≡ Accepted
    unfolding entry_tests
    entry-accepted behind h = go (holds_entry t k) refl
      where
        go : (b : Bool) → holds_entry t k ≡ b → first_of (entry_tests (starts_of t) t k) ≡ Accepted
        go false off = rw off accept-none
        go true on =
            let s = h on in
            let low = s.low in
            let high = s.high in
            rw on
            (accept-cons _ _ (le-ltb (offset_of t k) (heap_of t) low)
            (accept-cons _ _ (le-ltb (length_of t) (offset_of t k + size_of t k) (omega arith))
            (accept-cons _ _ (and_no (differs (size_of t k) 0) _ (λ z. ne_eqb (offset_of t k) 0 (λ x. omega arith)))
            (accept-cons _ _ (lt-leb (length_of t) (offset_of t k + size_of t k) high)
            (accept-cons _ _ (same_differs (byte t (offset_of t k + size_of t k)) 0 s.ends)
            (accept-cons _ _ (le-ltb (string_of k).longest (size_of t k) s.longest)
            (accept-cons _ _ (and_no (string_of k).host _ (λ is. ap not (s.host is))) accept-none)))))))

-- ---- all groups

-- the check's groups of tests, each accepted
pub record Groups (t : List ℕ) : Type 0 where
  pub header : first_of (header_tests ibft_signature control_at least_length t) ≡ Accepted
  pub control : first_of (control_tests t) ≡ Accepted
  pub word : (k : ℕ) → k < word_count t → first_of (word_tests t k) ≡ Accepted
  pub overlaps : (k : ℕ) → k < word_count t → first_of (overlap_tests t k) ≡ Accepted
  pub entry : (n : ℕ) → n < entry_count → first_of (entry_tests (starts_of t) t n) ≡ Accepted

module _ (t : List ℕ) where
  pub accepted-tests : check_of t ≡ Accepted → Groups t
  unfolding check_of check_tests
  accepted-tests ok =
      let a = append-passes (header_tests ibft_signature control_at least_length t) _ ok in
      let b = append-passes (control_tests t) _ a.1 in
      let c = append-passes (gather (word_tests t) 0 (word_count t)) _ b.1 in
      let d = append-passes (gather (overlap_tests t) 0 (word_count t)) _ c.1 in
      record {
        header = a.0;
        control = b.0;
        word = λ k h. gather-passes (word_tests t) (word_count t) 0 k c.0 (omega arith) (omega arith);
        overlaps = λ k h. gather-passes (overlap_tests t) (word_count t) 0 k d.0 (omega arith) (omega arith);
        entry = λ n h. gather-passes (entry_tests (starts_of t) t) entry_count 0 n d.1 (omega arith) (omega arith);
      }

  pub tests-accepted : Groups t → check_of t ≡ Accepted
  unfolding check_of check_tests
  tests-accepted g =
      append-accepted (header_tests ibft_signature control_at least_length t) _ g.header
      ∙ append-accepted (control_tests t) _ g.control
      ∙ append-accepted (gather (word_tests t) 0 (word_count t)) _ (gather-accepts (word_tests t) (word_count t) 0 (λ k l h. g.word k (omega arith)))
      ∙ append-accepted (gather (overlap_tests t) 0 (word_count t)) _ (gather-accepts (overlap_tests t) (word_count t) 0 (λ k l h. g.overlaps k (omega arith)))
      ∙ gather-accepts (entry_tests (starts_of t) t) entry_count 0 (λ n l h. g.entry n (omega arith))

  pub accepted-facts : check_of t ≡ Accepted → Facts t
  accepted-facts ok =
      let g = accepted-tests ok in
      record {
        header = header-facts ibft_signature control_at least_length t g.header;
        control = control-facts t g.control;
        word = λ k h on. word-facts t k (g.word k h) on;
        extra = λ k low h on. extra-facts t k (g.word k h) low on;
        apart = λ i k l h oni onk. overlap-facts t k (g.overlaps k h) i l oni onk;
        entry = λ n h on. entry-facts t n (g.entry n h) on;
      }

  pub facts-accepted : Facts t → check_of t ≡ Accepted
  facts-accepted f =
      tests-accepted
      (record {
        header = header-accepted ibft_signature control_at least_length t f.header;
        control = control-accepted t f.control;
        word = λ k h. word-accepted t k (f.word k h) (λ low on. f.extra k low h on);
        overlaps = λ k h. overlap-accepted t k (λ i l oni onk. f.apart i k l h oni onk);
        entry = λ n h. entry-accepted t n (omega (arith, heap-after-control t)) (f.entry n h);
      })
