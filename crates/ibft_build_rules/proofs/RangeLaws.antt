-- What a build reads in the record range of an accepted table is what stands in the table. The range is put together from
-- pieces of known lengths, and each lies where the build reads it: an extra behind the extras before it, which fill the slots
-- of their kind from the first on.
--     range_length                                      how long the range is
--     oem-part, flags-read, nics-read, targets-read     the fields at fixed places
--     slot-mark, entry-mark, extra-mark                 the presence marks
--     image-lies, image-read                            the images
--     size-read, offset_read, bytes_read                the strings
--     reads                                             all that a build reads
-- Assumes nothing.
use mathlib.Core.Path.{◌≡◌, refl, sym, ap, ap₂, ◌∙◌}
use mathlib.Core.Bool.{Bool, true, false, cond}
use mathlib.Core.List.{List, [], ◌∷◌, ◌++◌}
use Prim.Native.Nat.{ℕ, suc, ◌+◌, ◌*◌, ◌-◌, ◌≤◌, ◌<◌, min}
use native.Mathlib.Nat.{zero-add, mul-suc}
use native.Mathlib.Decide.{dec_lt}
use native.Mathlib.Omega.{arith}
use borrow.Author.Tests.{lt-ltb, ltb-true, ltb-false}
use lib.ListN.{length, length-append, get_or-append}
use lib.Dec.{ltb}
use Rattle.octets.specs.Counting.{sum_to, count, tabulate, gather}
use Rattle.octets.specs.Octets.{byte, word16, part, zeros}
use Rattle.octets.proofs.CountingLaws.{length-tabulate, get_d_tabulate, get_d-tabulate-from}
use Rattle.octets.proofs.ReadLaws.{part_length, part_at, part-within}
use Rattle.octets.proofs.LiesLaws.{Lies, lies-front, lies-last, lies-behind, lies_within, gather-length, gather-lies, gather-ends, lies-part}
use Rattle.octets.proofs.WriteLaws.{length-zeros}
use Rattle.ibft_layout.specs.Layout.{Kind, nic, target, kind_of, entry_count, slot_count, named_count, named_entries, most_words, extra_most}
use Rattle.ibft_layout.specs.Layout.{extra_nics, extra_targets, owner_of, string_of, first_entry}
use Rattle.ibft_table.specs.Table.{starts_of, nics_in, field_in, size_in, offset_in, start_of, present, size_of, offset_of, holds_entry}
use Rattle.ibft_table.specs.Check.{check_of}
use Rattle.table_header.specs.Verdict.{Accepted}
use Rattle.ibft_table_laws.proofs.LayoutLaws.{slot-fits, entry-inside}
use Rattle.ibft_table_laws.proofs.TableLaws.{present-below, facts, length-least, length-le, slot-end-le, entry-owner-on, entry_kept}
use Rattle.ibft_table_laws.proofs.NumberingLaws.{ExtrasOf, nic-extras, target-extras, extras-are, nics-most, nics-are, targets-most, targets-are}
use Rattle.ibft_build_rules.specs.RecordRange.{marks_at, nics_at, nics_given, targets_given, extra_size, nic_image, target_image, range_size}
use Rattle.ibft_build_rules.specs.RecordRange.{named_image, image_at, length_given, start_given, bytes_given}
use Rattle.ibft_build_rules.specs.Rebuild.{mark, marks_in, image_in, extra_in, targets_in, range_in, range_of}
use Rattle.ibft_build_rules.proofs.ReadsLaws.{Reads}
use Rattle.ibft_build_rules.proofs.RecordRangeLaws.{nic-image, target-image}

module _ (t : List ℕ) (ok : check_of t ≡ Accepted) where
  -- ---- the pieces

  abbrev nics : ℕ
  nics = nics_in (starts_of t)

  abbrev targets : ℕ
  targets = targets_in (starts_of t)

  abbrev slot_marks : List ℕ
  slot_marks = tabulate (λ (k : ℕ). mark (present t k)) 0 named_count

  abbrev entry_marks : List ℕ
  entry_marks = marks_in (starts_of t) t 0 named_entries

  abbrev images : List ℕ
  images = gather (image_in (starts_of t) t) 0 named_count

  abbrev numbers : List ℕ
  numbers = nics ∷ targets ∷ []

  abbrev extras : List ℕ
  extras = gather (extra_in (starts_of t) t) named_count most_words

  -- ---- how long they are

  oem-length : length (part t 10 14) ≡ 14
  oem-length = part_length t 10 14 (omega (arith, length-least t ok, length-le t ok))

  slot-marks-length : length slot_marks ≡ named_count
  slot-marks-length = length-tabulate (λ (k : ℕ). mark (present t k)) 0 named_count

  -- marks of entries, n from entry `from` on
  module _ (from n : ℕ) where
    marks-length : length (marks_in (starts_of t) t from n) ≡ n
    unfolding marks_in
    marks-length = length-tabulate _ from n

    marks-at : (j : ℕ) → j < n → byte (marks_in (starts_of t) t from n) j ≡ mark (holds_entry t (from + j))
    unfolding marks_in
    marks-at j h = get_d-tabulate-from (λ (i : ℕ). mark (holds_entry t i)) from n j 0 h

  -- an absent structure's image is as long as one that is present
  image-length : (k : ℕ) → length (image_in (starts_of t) t k) ≡ (kind_of k).length
  unfolding image_in
  image-length k = go (present t k) refl
    where
      size : ℕ
      size = (kind_of k).length

      go : (b : Bool) → present t k ≡ b → length (cond b (part t (start_of t k) size) (zeros size)) ≡ size
      go true on = part_length t (start_of t k) size (omega (arith, slot-end-le t ok k (present-below t k on) on, length-le t ok))
      go false on = length-zeros size

  -- where slot k's image stands among the images
  abbrev lengths_to : ℕ → ℕ
  lengths_to k = sum_to k (λ (i : ℕ). (kind_of i).length)

  image-next : (k : ℕ) → lengths_to (suc k) ≡ lengths_to k + length (image_in (starts_of t) t k)
  unfolding sum_to
  image-next k = ap (λ (n : ℕ). lengths_to k + n) (sym (image-length k))

  lengths-all : marks_at + named_count + named_entries + lengths_to named_count ≡ nics_at + lengths_to 0
  unfolding sum_to kind_of
  lengths-all = refl

  images-length : marks_at + named_count + named_entries + length images ≡ nics_at
  images-length = omega (arith, gather-length (image_in (starts_of t) t) lengths_to 0 named_count (λ k l h. image-next k), lengths-all)

  -- an extra: its image, and the marks of its entries, as many as its kind has strings
  abbrev strings : ℕ → ℕ
  strings k = length (kind_of k).string_fields

  abbrev extra_marks : ℕ → List ℕ
  extra_marks k = marks_in (starts_of t) t (first_entry k) (strings k)

  abbrev extra_held : ℕ → List ℕ
  extra_held k = image_in (starts_of t) t k ++ extra_marks k

  extra-is : (k : ℕ) → present t k ≡ true → extra_in (starts_of t) t k ≡ extra_held k
  unfolding extra_in
  extra-is k on = rw on

  extra-none : (k : ℕ) → present t k ≡ false → extra_in (starts_of t) t k ≡ []
  unfolding extra_in
  extra-none k off = rw off

  extra-length : (k : ℕ) → length (extra_held k) ≡ extra_size (kind_of k)
  extra-length k =
      omega (arith, length-append (image_in (starts_of t) t k) (extra_marks k), image-length k, marks-length (first_entry k) (strings k))

  -- where slot k's extra stands among the extras: behind the extras before it, the first so many of each kind
  extras_to : ℕ → ℕ
  extras_to k = extra_size nic * min (k - extra_nics) nics + extra_size target * min (k - extra_targets) targets

  -- where the extras of each kind stand
  nics-to : (i : ℕ) → i ≤ extra_most → extras_to (extra_nics + i) ≡ extra_size nic * min i nics
  unfolding extras_to
  nics-to i h =
      let own : extra_nics + i - extra_nics ≡ i = omega arith in
      let none : extra_nics + i - extra_targets ≡ 0 = omega arith in
      rw (own, none) (omega arith)

  targets-to : (i : ℕ) → extras_to (extra_targets + i) ≡ extra_size nic * nics + extra_size target * min i targets
  unfolding extras_to
  targets-to i =
      let own : extra_targets + i - extra_targets ≡ i = omega arith in
      let all : min (extra_targets + i - extra_nics) nics ≡ nics = omega (arith, nics-most t (facts t ok)) in
      rw (own, all)

  -- the first slots of a kind hold one extra each, the others none
  module _ (kind : Kind) (first base : ℕ) (o : ExtrasOf kind first)
      (to : (i : ℕ) → i ≤ extra_most → extras_to (first + i) ≡ base + extra_size kind * min i (count extra_most (λ (j : ℕ). present t (first + j))))
      (i : ℕ) (h : i < extra_most) where
    kind-next : extras_to (suc (first + i)) ≡ extras_to (first + i) + length (extra_in (starts_of t) t (first + i))
    kind-next = go (ltb i held) refl
      where
        held : ℕ
        held = count extra_most (λ (j : ℕ). present t (first + j))

        here : (n : ℕ) → min i held ≡ n → extras_to (first + i) ≡ base + extra_size kind * n
        here n e = to i (omega arith) ∙ ap (λ (n : ℕ). base + extra_size kind * n) e

        next : (n : ℕ) → min (suc i) held ≡ n → extras_to (suc (first + i)) ≡ base + extra_size kind * n
        next n e = ap extras_to (omega arith) ∙ to (suc i) (omega arith) ∙ ap (λ (n : ℕ). base + extra_size kind * n) e

        go : (b : Bool) → ltb i held ≡ b → extras_to (suc (first + i)) ≡ extras_to (first + i) + length (extra_in (starts_of t) t (first + i))
        go true e =
            let less : i < held = ltb-true i held e in
            omega (
              arith,
              here i (omega arith),
              next (suc i) (omega arith),
              mul-suc (extra_size kind) i,
              ap length (extra-is (first + i) (extras-are t (facts t ok) kind first o i h ∙ e)),
              extra-length (first + i) ∙ ap (λ (κ : Kind). extra_size κ) (o.kinds i h),
            )
        go false e =
            let most : held ≤ i = ltb-false i held e in
            omega (
              arith,
              here held (omega arith),
              next held (omega arith),
              ap length (extra-none (first + i) (extras-are t (facts t ok) kind first o i h ∙ e)),
            )

  extra-next : (k : ℕ) → named_count ≤ k → k < slot_count → extras_to (suc k) ≡ extras_to k + length (extra_in (starts_of t) t k)
  unfolding nics_in targets_in
  extra-next k low high =
      elim (dec_lt k extra_targets) [
        | yes l ↦
            let z : k ≡ extra_nics + (k - extra_nics) = omega arith in
            rw z (kind-next nic extra_nics 0 nic-extras (λ i h. omega (arith, nics-to i h)) (k - extra_nics) (omega arith))
        | no l ↦
            let z : k ≡ extra_targets + (k - extra_targets) = omega arith in
            rw z (kind-next target extra_targets (extra_size nic * nics) target-extras (λ i h. targets-to i) (k - extra_targets) (omega arith))
      ]

  extras-length : length extras ≡ extra_size nic * nics + extra_size target * targets
  unfolding targets_in
  extras-length =
      omega (
        arith,
        gather-length (extra_in (starts_of t) t) extras_to named_count most_words (λ k l h. extra-next k l (omega arith)),
        nics-to 0 (omega arith),
        targets-to extra_most,
        targets-most t (facts t ok),
      )

  -- ---- where they lie: each behind those before it

  abbrev from_numbers : List ℕ
  from_numbers = numbers ++ extras

  abbrev from_images : List ℕ
  from_images = images ++ from_numbers

  abbrev from_entries : List ℕ
  from_entries = entry_marks ++ from_images

  abbrev from_slots : List ℕ
  from_slots = slot_marks ++ from_entries

  pub range_length : length (range_of t) ≡ nics_at + 2 + (extra_size nic * nics + extra_size target * targets)
  unfolding range_of range_in
  range_length =
      omega (
        arith,
        length-append (part t 10 14) (byte t 53 ∷ from_slots),
        length-append slot_marks from_entries,
        length-append entry_marks from_images,
        length-append images from_numbers,
        oem-length,
        slot-marks-length,
        marks-length 0 named_entries,
        images-length,
        extras-length,
      )

  module _ (x : List ℕ) where
    slots-lie : (q : ℕ) → Lies from_slots q x → Lies (range_of t) (marks_at + q) x
    unfolding range_of range_in
    slots-lie q l =
        let place : 14 + (1 + q) ≡ marks_at + q = omega arith in
        rw place at
        (lies-behind (part t 10 14) (byte t 53 ∷ from_slots) x 14 (1 + q) oem-length (lies-behind (byte t 53 ∷ []) from_slots x 1 q refl l))

    entries-lie : (q : ℕ) → Lies from_entries q x → Lies (range_of t) (marks_at + named_count + q) x
    entries-lie q l =
        let place : marks_at + (named_count + q) ≡ marks_at + named_count + q = omega arith in
        rw place at (slots-lie (named_count + q) (lies-behind slot_marks from_entries x named_count q slot-marks-length l))

    images-lie : (q : ℕ) → Lies from_images q x → Lies (range_of t) (marks_at + named_count + named_entries + q) x
    images-lie q l =
        let place : marks_at + named_count + (named_entries + q) ≡ marks_at + named_count + named_entries + q = omega arith in
        rw place at (entries-lie (named_entries + q) (lies-behind entry_marks from_images x named_entries q (marks-length 0 named_entries) l))

    numbers-lie : (q : ℕ) → Lies from_numbers q x → Lies (range_of t) (nics_at + q) x
    numbers-lie q l =
        let size : ℕ = length images in
        let place : marks_at + named_count + named_entries + (size + q) ≡ nics_at + q = omega (arith, images-length) in
        rw place at (images-lie (size + q) (lies-behind images from_numbers x size q refl l))

    extras-lie : (q : ℕ) → Lies extras q x → Lies (range_of t) (nics_at + 2 + q) x
    extras-lie q l =
        let place : nics_at + (2 + q) ≡ nics_at + 2 + q = omega arith in
        rw place at (numbers-lie (2 + q) (lies-behind numbers extras x 2 q refl l))

  -- ---- the fields at fixed places

  oem-lies : Lies (range_of t) 0 (part t 10 14)
  unfolding range_of range_in
  oem-lies = lies-front (part t 10 14) (byte t 53 ∷ from_slots)

  module _ (j m : ℕ) (h : j + m ≤ 14) where
    pub oem-part : part (range_of t) j m ≡ part t (10 + j) m
    oem-part =
        sym (part-within (range_of t) 0 14 j m h ∙ ap (λ (i : ℕ). part (range_of t) i m) (omega arith))
        ∙ ap (λ (u : List ℕ). part u j m) front
        ∙ part-within t 10 14 j m h
      where
        front : part (range_of t) 0 14 ≡ part t 10 14
        front = lies-part (range_of t) (part t 10 14) 0 14 oem-length (omega (arith, range_length)) oem-lies

  pub flags-read : byte (range_of t) 14 ≡ byte t 53
  unfolding range_of range_in
  flags-read =
      let flag : List ℕ = byte t 53 ∷ [] in
      lies-behind (part t 10 14) (byte t 53 ∷ from_slots) flag 14 0 oem-length (lies-front flag from_slots) 0 (omega arith)

  pub nics-read : nics_given (range_of t) ≡ nics
  nics-read = numbers-lie numbers 0 (lies-front numbers extras) 0 (omega arith)

  pub targets-read : targets_given (range_of t) ≡ targets
  targets-read = numbers-lie numbers 0 (lies-front numbers extras) 1 (omega arith)

  pub slot-mark : (k : ℕ) → k < named_count → byte (range_of t) (marks_at + k) ≡ mark (present t k)
  slot-mark k h =
      slots-lie slot_marks 0 (lies-front slot_marks from_entries) k (omega (arith, slot-marks-length))
      ∙ get_d_tabulate (λ (k : ℕ). mark (present t k)) named_count k 0 h

  pub entry-mark : (n : ℕ) → n < named_entries → byte (range_of t) (marks_at + named_count + n) ≡ mark (holds_entry t n)
  entry-mark n h =
      entries-lie entry_marks 0 (lies-front entry_marks from_images) n (omega (arith, marks-length 0 named_entries))
      ∙ marks-at 0 named_entries n h ∙ ap (λ (m : ℕ). mark (holds_entry t m)) (zero-add n)

  -- ---- the images, and behind an extra's its marks

  -- where the build looks for an extra's image
  extra-at : (k : ℕ) → named_count ≤ k → present t k ≡ true → image_at (range_of t) k ≡ nics_at + 2 + extras_to k
  unfolding targets_in nic_image target_image
  extra-at k low on =
      elim (dec_lt k extra_targets) [
        | yes l ↦
            let i : ℕ = k - extra_nics in
            let h : i < extra_most = omega arith in
            let z : k ≡ extra_nics + i = omega arith in
            let less : i < nics = ltb-true i nics (sym (nics-are t (facts t ok) i h) ∙ ap (present t) (sym z) ∙ on) in
            omega (arith, ap (image_at (range_of t)) z ∙ nic-image (range_of t) i h, ap extras_to z ∙ nics-to i (omega arith))
        | no l ↦
            let i : ℕ = k - extra_targets in
            let h : i < extra_most = omega (arith, present-below t k on) in
            let z : k ≡ extra_targets + i = omega arith in
            let less : i < targets = ltb-true i targets (sym (targets-are t (facts t ok) i h) ∙ ap (present t) (sym z) ∙ on) in
            omega (arith, ap (image_at (range_of t)) z ∙ target-image (range_of t) i h, ap extras_to z ∙ targets-to i, nics-read)
      ]

  extra-lies : (k : ℕ) → named_count ≤ k → present t k ≡ true → Lies (range_of t) (image_at (range_of t) k) (extra_held k)
  extra-lies k low on =
      let high : k < slot_count = present-below t k on in
      rw (extra-at k low on)
      (rw (extra-is k on) at
      (extras-lie (extra_in (starts_of t) t k) (extras_to k)
      (gather-ends (extra_in (starts_of t) t) extras_to [] named_count most_words (λ k l h. extra-next k l (omega arith))
      (omega (arith, nics-to 0 (omega arith))) k low (omega arith))))

  pub image-lies : (k : ℕ) → present t k ≡ true → Lies (range_of t) (image_at (range_of t) k) (image_in (starts_of t) t k)
  unfolding image_at named_image sum_to
  image-lies k on =
      elim (dec_lt k named_count) [
        | yes l ↦
            rw (lt-ltb k named_count l)
            (images-lie (image_in (starts_of t) t k) (lengths_to k)
            (gather-lies (image_in (starts_of t) t) lengths_to [] from_numbers 0 named_count (λ k l h. image-next k) refl k (omega arith) (omega arith)))
        | no l ↦ λ j h.
            extra-lies k (omega arith) on j (omega (arith, length-append (image_in (starts_of t) t k) (extra_marks k)))
            ∙ get_or-append (image_in (starts_of t) t k) (extra_marks k) 0 j h
      ]

  pub image-read : (k : ℕ) → present t k ≡ true → (j : ℕ) → j < (kind_of k).length
      → byte (range_of t) (image_at (range_of t) k + j) ≡ byte t (start_of t k + j)
  unfolding image_in
  image-read k on j h =
      let here : image_in (starts_of t) t k ≡ part t (start_of t k) (kind_of k).length = rw on in
      image-lies k on j (omega (arith, image-length k)) ∙ ap (λ (u : List ℕ). byte u j) here ∙ part_at t (start_of t k) (kind_of k).length j h

  pub extra-mark : (k : ℕ) → named_count ≤ k → present t k ≡ true → (j : ℕ) → j < length (kind_of k).string_fields
      → byte (range_of t) (image_at (range_of t) k + (kind_of k).length + j) ≡ mark (holds_entry t (first_entry k + j))
  extra-mark k low on j h =
      let image : List ℕ = image_in (starts_of t) t k in
      lies_within (range_of t) (extra_held k) (extra_marks k) (image_at (range_of t) k) (kind_of k).length
      (omega (arith, length-append image (extra_marks k), image-length k))
      (extra-lies k low on)
      (lies-last image (extra_marks k) (kind_of k).length (image-length k))
      j
      (omega (arith, marks-length (first_entry k) (strings k)))
      ∙ marks-at (first_entry k) (strings k) j h

  -- ---- the strings are the table's

  image-word : (k j : ℕ) → present t k ≡ true → j + 1 < (kind_of k).length → word16 (range_of t) (image_at (range_of t) k + j) ≡ word16 t (start_of t k + j)
  image-word k j on l =
      let r : List ℕ = range_of t in
      let next : byte r (image_at r k + j + 1) ≡ byte t (start_of t k + j + 1) =
      ap (byte r) (omega arith) ∙ image-read k on (j + 1) l ∙ ap (byte t) (omega arith) in
      omega (arith, image-read k on j (omega arith), next)

  module _ (n : ℕ) (h : n < entry_count) (on : holds_entry t n ≡ true) where
    size-read : length_given (range_of t) n ≡ size_of t n
    unfolding length_given size_in field_in
    size-read = image-word (owner_of n) (string_of n).at (entry-owner-on t n on) (omega (arith, entry-inside n h))

    offset_read : start_given (range_of t) n ≡ offset_of t n
    unfolding start_given offset_in field_in
    offset_read =
        let r : List ℕ = range_of t in
        ap (word16 r) (omega arith)
        ∙ image-word (owner_of n) ((string_of n).at + 2) (entry-owner-on t n on) (omega (arith, entry-inside n h))
        ∙ ap (word16 t) (omega arith)

    bytes_read : bytes_given (range_of t) t n ≡ part t (offset_of t n) (size_of t n)
    unfolding bytes_given
    bytes_read = ap₂ (part t) offset_read size-read

    string-inside : start_given (range_of t) n + length_given (range_of t) n ≤ length t
    string-inside = omega (arith, size-read, offset_read, (entry_kept t ok n h on).high, length-le t ok)

  -- ---- the whole

  pub reads : Reads t (range_of t) t
  unfolding range_size target_image nic_image
  reads =
      record {
        size = omega (arith, range_length, nics-read, targets-read);
        oem-id = oem-part 0 6 (omega arith);
        oem-table-id = oem-part 6 8 (omega arith);
        flags = flags-read;
        nics = nics-read;
        targets = targets-read;
        slot-mark = slot-mark;
        entry-mark = entry-mark;
        extra-mark = extra-mark;
        index = λ k low on. let fits = slot-fits k (present-below t k on) in image-read k on 4 (omega (arith, fits.flags, fits.words));
        image = λ k on j low l. image-read k on j (omega (arith, (slot-fits k (present-below t k on)).words));
        long = size-read;
        inside = string-inside;
        bytes = bytes_read;
      }
