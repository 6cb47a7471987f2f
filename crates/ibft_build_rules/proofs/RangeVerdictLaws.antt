-- A record range that says what an accepted table holds, given to a build with its strings. What the build reads there is what
-- stands in the table (`Reads`), so the content that it is given is the table's, and each of its tests meets what the check has
-- accepted: only a zero byte in a string is refused by a build and not by the check.
--     content-range      the content that the range gives is the table's
--     contents-range     a build refuses it for nothing but a zero byte in a string, and then for the first, by its entry's
--                        number
-- Assumes nothing.
use mathlib.Core.Path.{◌≡◌, refl, sym, ap, ◌∙◌}
use mathlib.Core.Bool.{Bool, true, false, not, ◌&&◌}
use mathlib.Core.List.{List}
use Prim.Native.Nat.{ℕ, suc, ◌+◌, ◌-◌, ◌≤◌, ◌<◌}
use native.Mathlib.Decide.{dec_lt}
use native.Mathlib.Omega.{arith}
use borrow.Author.Tests.{lt-ltb, le-ltb, ltb-true, lt-leb}
use lib.ListN.{length}
use lib.Dec.{ltb}
use lib.Bits.{bit_and}
use Rattle.octets.specs.Counting.{gather}
use Rattle.octets.specs.Octets.{byte, part, differs}
use Rattle.octets.proofs.CountingLaws.{any-no}
use Rattle.octets.proofs.ReadLaws.{part_length, part_at, bytes-elements, bytes-part}
use Rattle.octets.proofs.TestLaws.{and_no, same_differs}
use Rattle.hostname.specs.Hostname.{is_host_name}
use Rattle.ibft_layout.specs.Layout.{Kind, control, nic, target, kind_of, slot_count, entry_count, named_count, named_entries, extra_most}
use Rattle.ibft_layout.specs.Layout.{extra_nics, extra_targets, least_index, control_at, chap_at, string_of, entry_number}
use Rattle.table_header.specs.Verdict.{refuse, first_of, Accepted}
use Rattle.ibft_table.specs.Table.{starts_of, end_in, index_in, holds_in, start_of, present, holds_entry}
use Rattle.table_header.specs.Header.{padded}
use Rattle.ibft_table.specs.Check.{reserved_set, check_of}
use Rattle.ibft_table.specs.Record.{body_size, content_in, content_of}
use Rattle.ibft_layout.proofs.LayoutLaws.{owner-past}
use Rattle.table_header.proofs.VerdictLaws.{accept-none, pass-cons, accept-cons, cons_same, append-accepted, gather-accepts, gather-verdict-same}
use Rattle.ibft_table_laws.specs.Facts.{Facts}
use Rattle.ibft_table_laws.proofs.AcceptedLaws.{accepted-facts}
use Rattle.ibft_table_laws.proofs.LayoutLaws.{slot-fits}
use Rattle.ibft_table_laws.proofs.NumberingLaws.{ExtrasOf, nic-extras, target-extras, nics-most, targets-most, index-least, index-up}
use Rattle.ibft_table_laws.proofs.RecordLaws.{shown-same}
use Rattle.ibft_table_laws.proofs.SlotLaws.{slot_kept}
use Rattle.ibft_build_rules.specs.RecordRange.{base_size, marks_at, nics_given, targets_given, nic_image, target_image, range_size, image_at}
use Rattle.ibft_build_rules.specs.RecordRange.{structure_given, index_given, entry_given, length_given, start_given, content_given}
use Rattle.ibft_build_rules.specs.Refusals.{has_zero, bad_mark, range_tests, index_tests, extras_tests, flags_tests, image_tests}
use Rattle.ibft_build_rules.specs.Refusals.{string_tests, contents_tests, contents_verdict}
use Rattle.ibft_build_rules.specs.Rebuild.{targets_in, zero_in, zero_tests}
use Rattle.ibft_build_rules.proofs.RecordRangeLaws.{given-past, nic-given, target-given, nic-image, target-image}
use Rattle.ibft_build_rules.proofs.GoodLaws.{Long, range-long, image-fits, given_below}
use Rattle.ibft_build_rules.proofs.ReadsLaws.{Reads, given-same, entry-same, named-marks, nic-marks, target-marks}

module _ (t r s : List ℕ) (ok : check_of t ≡ Accepted) (reads : Reads t r s) where
  facts : Facts t
  facts = accepted-facts t ok

  -- ---- what is given, by slot and by entry

  given : (k : ℕ) → structure_given r k ≡ present t k
  given = given-same t r s ok reads

  entry : (n : ℕ) → n < entry_count → entry_given r n ≡ holds_entry t n
  entry = entry-same t r s ok reads

  sized : differs (length r) base_size && differs (length r) (range_size r) ≡ false
  sized = and_no (differs (length r) base_size) _ (λ on. same_differs (length r) (range_size r) reads.size)

  long : Long r
  long = range-long r sized

  slot-below : (k : ℕ) → present t k ≡ true → k < slot_count
  slot-below k on = given_below r k (given k ∙ on)

  -- the flags and fields of a structure
  body_is : (k : ℕ) → present t k ≡ true → part r (image_at r k + 5) (body_size (kind_of k)) ≡ part t (start_of t k + 5) (body_size (kind_of k))
  unfolding end_in
  body_is k on =
      let m : ℕ = body_size (kind_of k) in
      let fits = slot-fits k (slot-below k on) in
      let lies = image-fits r long k (given k ∙ on) in
      let stands = (slot_kept t facts k (slot-below k on) on).inside in
      let whole = facts.header.whole in
      bytes-elements (part r (image_at r k + 5) m) t (start_of t k + 5) m (part_length r (image_at r k + 5) m (omega (arith, fits.flags, fits.words)))
      (λ i h.
      part_at r (image_at r k + 5) m i h ∙ ap (byte r) (omega arith) ∙ reads.image k on (5 + i) (omega arith) (omega arith) ∙ ap (byte t) (omega arith))
      ∙ bytes-part t (start_of t k + 5) m (omega (arith, fits.flags, fits.words))

  index_is : (k : ℕ) → index_given r k ≡ index_in (starts_of t) t k
  unfolding index_given index_in
  index_is k = go (present t k) refl
    where
      go : (b : Bool) → present t k ≡ b → index_given r k ≡ index_in (starts_of t) t k
      go false off = rw (given k, off)
      go true on =
          elim (dec_lt k named_count) [
            | yes l ↦ rw (lt-ltb k named_count l)
            | no l ↦ rw (given k, on, reads.index k (omega arith) on)
          ]

  -- past the last entry none is given and none is held
  entry-none : (n : ℕ) → entry_count ≤ n → (entry_given r n ≡ false) × (holds_entry t n ≡ false)
  unfolding entry_given holds_in
  entry-none n l =
      let none : structure_given r slot_count ≡ false = given-past r slot_count (omega arith) in
      let absent : present t slot_count ≡ false = sym (given slot_count) ∙ none in
      (rw (owner-past n l, none), rw (owner-past n l, absent))

  pub content-range : content_given r s ≡ content_of t
  unfolding content_given content_of content_in
  content-range =
      λ i. record {
        oem_id = reads.oem-id i;
        oem_table_id = reads.oem-table-id i;
        flags = reads.flags i;
        structure = λ (k : ℕ). structures k i;
        index = λ (k : ℕ). index_is k i;
        entry = λ (n : ℕ). entries n i;
      }
    where
      structures : (k : ℕ) → (content_given r s).structure k ≡ (content_of t).structure k
      structures k =
          shown-same (structure_given r k) (present t k) _ _ (given k) (body_is k)

      entries : (n : ℕ) → (content_given r s).entry n ≡ (content_of t).entry n
      entries n =
          elim (dec_lt n entry_count) [
            | yes l ↦ shown-same (entry_given r n) (holds_entry t n) _ _ (entry n l) (reads.bytes n l)
            | no l ↦
                let past = entry-none n (omega arith) in
                rw (past.0, past.1)
          ]

  -- ---- no test of the range fails ..

  -- n presence marks that are 0 or 1
  marks-fine : (at n : ℕ) → ((j : ℕ) → j < n → byte r (at + j) ≤ 1) → bad_mark r at n ≡ false
  unfolding bad_mark
  marks-fine at n small = any-no n (λ (j : ℕ). ltb 1 (byte r (at + j))) (λ j h. le-ltb 1 (byte r (at + j)) (small j h))

  range-accepts : first_of (range_tests r) ≡ Accepted
  unfolding range_tests
  range-accepts =
      let header = facts.header in
      accept-cons _ _ sized
      (accept-cons _ _ (marks-fine marks_at (named_count + named_entries) (named-marks t r s ok reads))
      (accept-cons _ _
      (any-no (nics_given r) _
      (λ i h. marks-fine (nic_image i + nic.length) (length nic.string_fields) (λ j. nic-marks t r s ok reads i j (omega (arith, reads.nics)))))
      (accept-cons _ _
      (any-no (targets_given r) _
      (λ i h. marks-fine (target_image r i + target.length) (length target.string_fields)
      (λ j. target-marks t r s ok reads i j (omega (arith, reads.targets)))))
      (accept-cons _ _ (ap (λ (l : List ℕ). not (padded l)) reads.oem-id ∙ ap not header.oem-id)
      (accept-cons _ _ (ap (λ (l : List ℕ). not (padded l)) reads.oem-table-id ∙ ap not header.oem-table-id) accept-none)))))

  -- the extras of one kind: n are given, with their images at `image`
  module _ (kind : Kind) (first : ℕ) (o : ExtrasOf kind first) (image : ℕ → ℕ) (n : ℕ) (most : n ≤ extra_most)
      (gives : (i : ℕ) → i < extra_most → structure_given r (first + i) ≡ ltb i n)
      (places : (i : ℕ) → i < extra_most → image_at r (first + i) ≡ image i) where
    extra-present : (i : ℕ) → i < n → present t (first + i) ≡ true
    extra-present i h = sym (given (first + i)) ∙ gives i (omega arith) ∙ lt-ltb i n h

    extra-index : (i : ℕ) → i < n → byte r (image i + 4) ≡ index_in (starts_of t) t (first + i)
    unfolding index_given
    extra-index i h =
        let low : named_count ≤ first + i = omega (arith, o.low) in
        ap (λ (a : ℕ). byte r (a + 4)) (sym (places i (omega arith)))
        ∙ rw (le-ltb (first + i) named_count low, given (first + i), extra-present i h) at (index_is (first + i))

    -- each but the first has an Index above its forerunner's
    above : (i : ℕ) → i < n → ltb 0 i ≡ true → byte r (image (i - 1) + 4) < byte r (image i + 4)
    above i h later =
        let positive = ltb-true 0 i later in
        let next : suc (i - 1) ≡ i = omega arith in
        let up = index-up t facts kind first o (i - 1) (omega arith) (ap (λ (j : ℕ). present t (first + j)) next ∙ extra-present i h) in
        omega (arith, extra-index (i - 1) (omega arith), extra-index i h, up, ap (λ (j : ℕ). index_in (starts_of t) t (first + j)) next)

    indices-accept : (slot : ℕ) → first_of (gather (index_tests r image slot) 0 n) ≡ Accepted
    unfolding index_tests
    indices-accept slot =
        gather-accepts (index_tests r image slot) n 0
        (λ i l h.
        let below : i < n = omega arith in
        let least = index-least t facts kind first o i (omega arith) (extra-present i below) in
        accept-cons _ _ (lt-leb extra_most i (omega arith))
        (accept-cons _ _ (le-ltb (byte r (image i + 4)) least_index (omega (arith, extra-index i below, least)))
        (accept-cons _ _ (and_no (ltb 0 i) _ (λ later. lt-leb (byte r (image i + 4)) (byte r (image (i - 1) + 4)) (above i below later))) accept-none)))

  extras-accept : first_of (extras_tests r) ≡ Accepted
  unfolding extras_tests targets_in
  extras-accept =
      append-accepted (gather (index_tests r nic_image extra_nics) 0 (nics_given r)) _
      (indices-accept nic extra_nics nic-extras nic_image (nics_given r) (omega (arith, reads.nics, nics-most t facts)) (nic-given r) (nic-image r) extra_nics)
      ∙ indices-accept target extra_targets target-extras (target_image r) (targets_given r) (omega (arith, reads.targets, targets-most t facts))
      (target-given r) (target-image r) (extra_nics + nics_given r)

  flags-accept : first_of (flags_tests r) ≡ Accepted
  unfolding flags_tests reserved_set
  flags-accept =
      accept-cons _ _
      (ap (λ (f : ℕ). differs (bit_and f control.reserved) 0) reads.flags
      ∙ same_differs (bit_and (byte t (control_at + 5)) control.reserved) 0 facts.control.reserved)
      accept-none

  image-accepts : (k : ℕ) → first_of (image_tests r k) ≡ Accepted
  unfolding image_tests reserved_set
  image-accepts k = go (present t k) refl
    where
      go : (b : Bool) → present t k ≡ b → first_of (image_tests r k) ≡ Accepted
      go false off = rw (given k, off) accept-none
      go true on =
          let h = slot-below k on in
          let fits = slot-fits k h in
          let kept = slot_kept t facts k h on in
          let flags : byte r (image_at r k + 5) ≡ byte t (start_of t k + 5) = reads.image k on 5 (omega arith) (omega (arith, fits.flags)) in
          rw (given k, on)
          (accept-cons _ _
          (ap (λ (f : ℕ). differs (bit_and f (kind_of k).reserved) 0) flags
          ∙ same_differs (bit_and (byte t (start_of t k + 5)) (kind_of k).reserved) 0 kept.starts.reserved)
          (accept-cons _ _
          (and_no (kind_of k).chap _
          (λ has.
          let type : byte r (image_at r k + chap_at) ≡ byte t (start_of t k + chap_at) = reads.image k on chap_at (omega arith) (omega (arith, fits.chap has)) in
          le-ltb 2 (byte r (image_at r k + chap_at)) (omega (arith, type, kept.chap has))))
          accept-none))

  -- ---- .. and of an entry's none but the one for a zero byte

  strings-same : (n : ℕ) → n < entry_count → first_of (string_tests r s n) ≡ first_of (zero_tests (starts_of t) t n)
  unfolding string_tests zero_tests zero_in
  strings-same n h = go (holds_entry t n) refl
    where
      go : (b : Bool) → holds_entry t n ≡ b → first_of (string_tests r s n) ≡ first_of (zero_tests (starts_of t) t n)
      go false off = rw (entry n h, off) (accept-none ∙ sym (accept-cons _ _ refl accept-none))
      go true on =
          let e = facts.entry n h on in
          let size = reads.long n h on in
          let bytes = reads.bytes n h on in
          rw (entry n h, on)
          (pass-cons _ _ (le-ltb (length s) (start_given r n + length_given r n) (reads.inside n h on))
          ∙ pass-cons _ _ (le-ltb (string_of n).longest (length_given r n) (omega (arith, size, e.longest)))
          ∙ cons_same _ _ _ _ (ap has_zero bytes) (ap (λ (nics : ℕ). (refuse 20 (entry_number nics n) true).refusal) reads.nics)
          (λ none.
          accept-cons _ _ (and_no (string_of n).host _ (λ host. ap (λ (l : List ℕ). not (is_host_name l)) bytes ∙ ap not (e.host host))) accept-none
          ∙ sym accept-none))

  pub contents-range : contents_verdict r s ≡ first_of (gather (zero_tests (starts_of t) t) 0 entry_count)
  unfolding contents_verdict contents_tests
  contents-range =
      append-accepted (range_tests r) _ range-accepts
      ∙ append-accepted (extras_tests r) _ extras-accept
      ∙ append-accepted (flags_tests r) _ flags-accept
      ∙ append-accepted (gather (image_tests r) 0 slot_count) _ (gather-accepts (image_tests r) slot_count 0 (λ k l h. image-accepts k))
      ∙ gather-verdict-same (string_tests r s) (zero_tests (starts_of t) t) 0 entry_count (λ n l h. strings-same n (omega arith))
