-- The contents of a record range that is not refused are good: each fact of `Good` is what one test leaves. The range is then
-- long enough that each field and each given image lies in it whole, and its extras are packed.
--     given_below                nothing is given past the last slot
--     range-long, image-fits     the images given lie in the range
--     extras-good                its extras: at most six of a kind, by ascending Index
--     contents-good              contents not refused are good
-- Assumes nothing.
use mathlib.Core.Path.{◌≡◌, refl, sym, ap, ◌∙◌}
use mathlib.Core.Bool.{Bool, true, false, ◌&&◌}
use mathlib.Core.List.{List}
use Prim.Native.Nat.{ℕ, zero, suc, ◌+◌, ◌-◌, ◌≤◌, ◌<◌}
use native.Mathlib.Decide.{dec_lt}
use native.Mathlib.Omega.{arith}
use lib.ListN.{length}
use lib.Dec.{leb, ltb}
use borrow.Author.Tests.{ltb-true, ltb-false, lt-ltb, le-ltb, leb-false, not-false}
use Rattle.octets.specs.Counting.{any, gather}
use Rattle.octets.specs.Octets.{byte, part, differs}
use Rattle.octets.proofs.CountingLaws.{any_none, clash}
use Rattle.octets.proofs.ReadLaws.{byte_past, part_length, part_at}
use Rattle.octets.proofs.TestLaws.{and_both, and-other, and_no, differs-no}
use Rattle.ibft_layout.specs.Layout.{Kind, nic, target, kind_of, index_of, chap_at, slot_count, entry_count, named_count, extra_most, extra_nics}
use Rattle.ibft_layout.specs.Layout.{extra_targets, least_index, owner_of, string_of}
use Rattle.table_header.specs.Verdict.{first_of, Accepted}
use Rattle.table_header.specs.Header.{padded}
use Rattle.ibft_table.specs.Check.{reserved_set}
use Rattle.ibft_table.specs.Record.{shown_if, body_size}
use Rattle.table_header.proofs.VerdictLaws.{passes, append-passes, gather-passes}
use Rattle.ibft_table_laws.proofs.LayoutLaws.{slot-fits, nic-slot, target-slot}
use Rattle.ibft_table_laws.proofs.RecordLaws.{shown-some}
use Rattle.ibft_build_rules.specs.RecordRange.{base_size, nics_at, nics_given, targets_given, nic_image, target_image, range_size}
use Rattle.ibft_build_rules.specs.RecordRange.{named_image, image_at, structure_given, index_given, entry_given, length_given, start_given}
use Rattle.ibft_build_rules.specs.RecordRange.{bytes_given, content_given}
use Rattle.ibft_build_rules.specs.Refusals.{range_tests, index_tests, extras_tests, flags_tests, image_tests, string_tests, contents_tests, contents_verdict}
use Rattle.ibft_build_rules.specs.Plan.{is_present}
use Rattle.ibft_build_rules.specs.Computing.{computing}
use Rattle.ibft_build_rules.proofs.RecordRangeLaws.{nic-given, target-given, nic-image, target-image, given-past}
use Rattle.ibft_build_rules.proofs.GoodContent.{GoodBody, GoodEntry, Packed, Good}

-- ---- images of the named slots, by computation

named-fit : any named_count (λ (k : ℕ). ltb base_size (named_image k + (kind_of k).length)) ≡ false
unfolding computing
named-fit = refl

named-fits : (k : ℕ) → k < named_count → named_image k + (kind_of k).length ≤ base_size
named-fits k h =
    ltb-false base_size (named_image k + (kind_of k).length)
    (any_none named_count (λ (k : ℕ). ltb base_size (named_image k + (kind_of k).length)) named-fit k h)

module _ (r : List ℕ) where
  pub given_below : (k : ℕ) → structure_given r k ≡ true → k < slot_count
  given_below k on =
      elim (dec_lt k slot_count) [
        | yes l ↦ l
        | no l ↦ clash on (given-past r k (omega arith))
      ]

  -- ---- the range

  -- it holds the named images and each extra's
  pub record Long : Type 0 where
    pub base : base_size ≤ length r
    pub nics : (i : ℕ) → i < nics_given r → nic_image i + nic.length ≤ length r
    pub targets : (i : ℕ) → i < targets_given r → target_image r i + target.length ≤ length r

  pub range-long : differs (length r) base_size && differs (length r) (range_size r) ≡ false → Long
  unfolding range_size target_image nic_image
  range-long e = go (differs (length r) base_size) refl
    where
      go : (b : Bool) → differs (length r) base_size ≡ b → Long
      go false f =
          let size = differs-no (length r) base_size f in
          record {
            base = omega arith;
            nics = λ i h. absurd (omega (arith, byte_past r nics_at (omega arith)));
            targets = λ i h. absurd (omega (arith, byte_past r (nics_at + 1) (omega arith)));
          }
      go true f =
          let size = differs-no (length r) (range_size r) (and-other (differs (length r) base_size) _ e f) in
          record {
            base = omega arith;
            nics = λ i h. omega arith;
            targets = λ i h. omega arith;
          }

  -- slot k's image, where it is given, lies in the range
  pub image-fits : Long → (k : ℕ) → structure_given r k ≡ true → image_at r k + (kind_of k).length ≤ length r
  unfolding image_at
  image-fits long k on =
      elim (dec_lt k named_count) [
        | yes l ↦ named l
        | no l ↦ elim (dec_lt k extra_targets) [
          | yes m ↦ nics (k - extra_nics) (omega arith) (omega arith)
          | no m ↦ targets (k - extra_targets) (omega (arith, given_below k on)) (omega arith)
        ]
      ]
    where
      named : k < named_count → image_at r k + (kind_of k).length ≤ length r
      named l = rw (lt-ltb k named_count l) (omega (arith, long.base, named-fits k l))

      nics : (i : ℕ) → i < extra_most → k ≡ extra_nics + i → image_at r k + (kind_of k).length ≤ length r
      nics i h z =
          let given : i < nics_given r = ltb-true i (nics_given r) (sym (nic-given r i h) ∙ ap (structure_given r) (sym z) ∙ on) in
          omega (
            arith,
            long.nics i given,
            ap (image_at r) z ∙ nic-image r i h,
            ap (λ (j : ℕ). (kind_of j).length) z ∙ ap (λ (κ : Kind). κ.length) (nic-slot i h),
          )

      targets : (i : ℕ) → i < extra_most → k ≡ extra_targets + i → image_at r k + (kind_of k).length ≤ length r
      targets i h z =
          let given : i < targets_given r = ltb-true i (targets_given r) (sym (target-given r i h) ∙ ap (structure_given r) (sym z) ∙ on) in
          omega (
            arith,
            long.targets i given,
            ap (image_at r) z ∙ target-image r i h,
            ap (λ (j : ℕ). (kind_of j).length) z ∙ ap (λ (κ : Kind). κ.length) (target-slot i h),
          )

  pub record GoodRange : Type 0 where
    pub long : Long
    pub oem-id : padded (part r 0 6) ≡ true
    pub oem-table-id : padded (part r 6 8) ≡ true

  pub range-good : first_of (range_tests r) ≡ Accepted → GoodRange
  unfolding range_tests
  range-good e =
      let a = passes _ _ e in
      let b = passes _ _ a.1 in
      let c = passes _ _ b.1 in
      let d = passes _ _ c.1 in
      let f = passes _ _ d.1 in
      let g = passes _ _ f.1 in
      record {
        long = range-long a.0;
        oem-id = not-false (padded (part r 0 6)) f.0;
        oem-table-id = not-false (padded (part r 6 8)) g.0;
      }

  -- ---- extras of one kind: n of them, their images at `image`

  module _ (image : ℕ → ℕ) (slot n : ℕ) (e : first_of (gather (index_tests r image slot) 0 n) ≡ Accepted) where
    indices-pass : (i : ℕ) → i < n
        → (leb extra_most i ≡ false) × (ltb (byte r (image i + 4)) least_index ≡ false)
        × (ltb 0 i && leb (byte r (image i + 4)) (byte r (image (i - 1) + 4)) ≡ false)
    unfolding index_tests
    indices-pass i h =
        let a = passes _ _ (gather-passes (index_tests r image slot) n 0 i e (omega arith) (omega arith)) in
        let b = passes _ _ a.1 in
        (a.0, b.0, (passes _ _ b.1).0)

    pub extras-most : n ≤ extra_most
    extras-most =
        elim (dec_lt extra_most n) [
          | yes l ↦ absurd (omega (arith, leb-false extra_most extra_most (indices-pass extra_most l).0))
          | no l ↦ omega arith
        ]

    pub extras-index : (i : ℕ) → i < n → least_index ≤ byte r (image i + 4)
    extras-index i h = ltb-false (byte r (image i + 4)) least_index (indices-pass i h).1

    next_up : (i : ℕ) → suc i < n → byte r (image i + 4) < byte r (image (suc i) + 4)
    next_up i h =
        let same : suc i - 1 ≡ i = omega arith in
        leb-false (byte r (image (suc i) + 4)) (byte r (image i + 4))
        (ap (λ (j : ℕ). leb (byte r (image (suc i) + 4)) (byte r (image j + 4))) (sym same)
        ∙ and-other (ltb 0 (suc i)) _ (indices-pass (suc i) h).2 (lt-ltb 0 (suc i) (omega arith)))

    pub extras-up : (i j : ℕ) → i < j → j < n → byte r (image i + 4) < byte r (image j + 4)
    extras-up i zero l h = absurd (omega arith)
    extras-up i (suc j) l h =
        elim (dec_lt i j) [
          | yes m ↦ omega (arith, extras-up i j m (omega arith), next_up j h)
          | no m ↦
              let z : i ≡ j = omega arith in
              rw z (next_up j h)
        ]

  module _ (e : first_of (extras_tests r) ≡ Accepted) where
    groups : (first_of (gather (index_tests r nic_image extra_nics) 0 (nics_given r)) ≡ Accepted)
        × (first_of (gather (index_tests r (target_image r) (extra_nics + nics_given r)) 0 (targets_given r)) ≡ Accepted)
    unfolding extras_tests
    groups = append-passes (gather (index_tests r nic_image extra_nics) 0 (nics_given r)) _ e

    pub nics-most : nics_given r ≤ extra_most
    nics-most = extras-most nic_image extra_nics (nics_given r) groups.0

    pub targets-most : targets_given r ≤ extra_most
    targets-most = extras-most (target_image r) (extra_nics + nics_given r) (targets_given r) groups.1

    module _ (i : ℕ) where
      nic-index : i < nics_given r → index_given r (extra_nics + i) ≡ byte r (nic_image i + 4)
      unfolding index_given
      nic-index h =
          let six : i < extra_most = omega (arith, nics-most) in
          rw (le-ltb (extra_nics + i) named_count (omega arith), nic-given r i six, lt-ltb i (nics_given r) h) (ap (λ (a : ℕ). byte r (a + 4)) (nic-image r i six))

      target-index : i < targets_given r → index_given r (extra_targets + i) ≡ byte r (target_image r i + 4)
      unfolding index_given
      target-index h =
          let six : i < extra_most = omega (arith, targets-most) in
          rw (le-ltb (extra_targets + i) named_count (omega arith), target-given r i six, lt-ltb i (targets_given r) h)
          (ap (λ (a : ℕ). byte r (a + 4)) (target-image r i six))

    -- an extra that is given has an Index from 2 on
    index-least : (k : ℕ) → named_count ≤ k → structure_given r k ≡ true → least_index ≤ index_given r k
    index-least k l on =
        elim (dec_lt k extra_targets) [
          | yes m ↦ nics (k - extra_nics) (omega arith) (omega arith)
          | no m ↦ targets (k - extra_targets) (omega (arith, given_below k on)) (omega arith)
        ]
      where
        nics : (i : ℕ) → i < extra_most → k ≡ extra_nics + i → least_index ≤ index_given r k
        nics i h z =
            let given : i < nics_given r = ltb-true i (nics_given r) (sym (nic-given r i h) ∙ ap (structure_given r) (sym z) ∙ on) in
            omega (arith, ap (index_given r) z ∙ nic-index i given, extras-index nic_image extra_nics (nics_given r) groups.0 i given)

        targets : (i : ℕ) → i < extra_most → k ≡ extra_targets + i → least_index ≤ index_given r k
        targets i h z =
            let given : i < targets_given r = ltb-true i (targets_given r) (sym (target-given r i h) ∙ ap (structure_given r) (sym z) ∙ on) in
            omega (
              arith,
              ap (index_given r) z ∙ target-index i given,
              extras-index (target_image r) (extra_nics + nics_given r) (targets_given r) groups.1 i given,
            )

    -- a structure is present where it is given
    present-given : (s : List ℕ) (k : ℕ) → is_present ((content_given r s).structure k) ≡ structure_given r k
    unfolding content_given is_present
    present-given s k = go (structure_given r k)
      where
        go : (b : Bool) → is_present (shown_if b (part r (image_at r k + 5) (body_size (kind_of k)))) ≡ b
        go true = refl
        go false = refl

    pub extras-good : (s : List ℕ) → Packed (content_given r s) (nics_given r) (targets_given r)
    unfolding content_given
    extras-good s = record {
      nics = nics-most;
      targets = targets-most;
      nics-are = λ i h. present-given s (extra_nics + i) ∙ nic-given r i h;
      targets-are = λ i h. present-given s (extra_targets + i) ∙ target-given r i h;
      index = λ k l on. index-least k l (sym (present-given s k) ∙ on);
      nic-up = λ i j l h.
          omega (arith, nic-index i (omega arith), nic-index j h, extras-up nic_image extra_nics (nics_given r) groups.0 i j l h);
      target_up = λ i j l h.
          omega (
            arith,
            target-index i (omega arith),
            target-index j h,
            extras-up (target_image r) (extra_nics + nics_given r) (targets_given r) groups.1 i j l h,
          );
    }

  -- ---- an image

  pub image-good : (k : ℕ) → k < slot_count → Long → structure_given r k ≡ true → first_of (image_tests r k) ≡ Accepted
      → GoodBody k (part r (image_at r k + 5) (body_size (kind_of k)))
  unfolding image_tests
  image-good k h long on e =
      let a = passes _ _ (rw on at e) in
      let b = passes _ _ a.1 in
      let fits = slot-fits k h in
      let flags = fits.flags in
      record {
        body-size = part_length r (image_at r k + 5) (body_size (kind_of k)) (omega (arith, fits.words, image-fits long k on));
        body-flags = ap (λ (x : ℕ). reserved_set x (kind_of k)) (at 0 5 (omega arith) (omega arith)) ∙ a.0;
        body-chap = and_no (kind_of k).chap _
            (λ has.
            ap (λ (x : ℕ). ltb 2 x) (at (chap_at - 5) chap_at (omega (arith, fits.chap has)) (omega arith)) ∙ and-other (kind_of k).chap _ b.0 has);
      }
    where
      at : (i j : ℕ) → i < body_size (kind_of k) → 5 + i ≡ j → byte (part r (image_at r k + 5) (body_size (kind_of k))) i ≡ byte r (image_at r k + j)
      at i j l e = part_at r (image_at r k + 5) (body_size (kind_of k)) i l ∙ ap (byte r) (omega arith)

-- ---- an entry

module _ (r s : List ℕ) where
  pub string-good : (n : ℕ) → entry_given r n ≡ true → first_of (string_tests r s n) ≡ Accepted → GoodEntry n (bytes_given r s n)
  unfolding string_tests bytes_given
  string-good n on e =
      let a = passes _ _ (rw on at e) in
      let b = passes _ _ a.1 in
      let c = passes _ _ b.1 in
      let d = passes _ _ c.1 in
      let lies = part_length s (start_given r n) (length_given r n) (ltb-false (length s) (start_given r n + length_given r n) a.0) in
      record {
        not-long = omega (arith, lies, ltb-false (string_of n).longest (length_given r n) b.0);
        no_zero = c.0;
        host-name = d.0;
      }

  -- ---- all of it

  -- an Index is given of named structures and of extras that are there
  index-named : (k : ℕ) → k < named_count → index_given r k ≡ index_of k
  unfolding index_given
  index-named k h = rw (lt-ltb k named_count h)

  index-unnamed : (k : ℕ) → named_count ≤ k → structure_given r k ≡ false → index_given r k ≡ 0
  unfolding index_given
  index-unnamed k h off = rw (le-ltb k named_count h, off)

  pub contents-good : contents_verdict r s ≡ Accepted → Good (content_given r s)
  unfolding contents_verdict contents_tests flags_tests content_given entry_given is_present
  contents-good ok =
      let a = append-passes (range_tests r) _ ok in
      let x = append-passes (extras_tests r) _ a.1 in
      let f = append-passes (flags_tests r) _ x.1 in
      let b = append-passes (gather (image_tests r) 0 slot_count) _ f.1 in
      let range = range-good r a.0 in
      let base = range.long.base in
      record {
        nics = nics_given r;
        targets = targets_given r;
        extras = extras-good r x.0 s;
        named = index-named;
        unnamed = λ k h off. index-unnamed k h (sym (present-given r x.0 s k) ∙ off);
        oem-id = part_length r 0 6 (omega arith);
        oem-id-padded = range.oem-id;
        oem-table-id = part_length r 6 8 (omega arith);
        oem-table-id-padded = range.oem-table-id;
        control-flags = (passes _ _ f.0).0;
        body = λ k y h is.
            let w = shown-some (structure_given r k) _ y is in
            rw (← w.1) (image-good r k h range.long w.0 (gather-passes (image_tests r) slot_count 0 k b.0 (omega arith) (omega arith)));
        entry = λ n y h is.
            let w = shown-some (entry_given r n) _ y is in
            rw (← w.1) (string-good n w.0 (gather-passes (string_tests r s) entry_count 0 n b.1 (omega arith) (omega arith)));
        owned = λ n y h is.
            let w = shown-some (entry_given r n) _ y is in
            rw (and_both (structure_given r (owner_of n)) _ w.0).0;
      }
