-- What entering the text of an accepted table leaves: the range, up to its size, and the strings, up to what is used, say what
-- the table holds. So they give the record of the table, a build does not refuse them where no string holds a zero byte, and
-- what it builds reads as that record.
--     entered-reads      what is left says what the table holds
--     entered-record     it gives the record of the table
--     entered-builds     a build does not refuse it
--     entered-built      and leaves a table of the same record
-- Assumes nothing.
use mathlib.Core.Path.{◌≡◌, refl, sym, ap, ◌∙◌}
use mathlib.Core.Bool.{true}
use mathlib.Core.List.{List}
use Prim.Native.Nat.{ℕ, ◌+◌, ◌-◌, ◌≤◌, ◌<◌}
use native.Mathlib.Decide.{dec_lt}
use native.Mathlib.Omega.{arith}
use borrow.Author.Tests.{lt-ltb, le-ltb}
use lib.ListN.{length, take}
use lib.Seq.{get_or-take, length-take-le}
use Rattle.octets.specs.Octets.{byte, word16, part}
use Rattle.octets.proofs.ReadLaws.{part_length, part_at, bytes-elements, bytes-part}
use Rattle.ibft_layout.specs.Layout.{kind_of, flags_at, slot_count, entry_count, named_count, named_entries, owner_of, string_of, first_entry}
use Rattle.ibft_table.specs.Table.{start_of, present, size_of, offset_of, holds_entry}
use Rattle.ibft_table.specs.Record.{record_of}
use Rattle.table_header.specs.Verdict.{Accepted}
use Rattle.ibft_layout.proofs.LayoutLaws.{owner-named}
use Rattle.ibft_table_laws.proofs.LayoutLaws.{entry-fits, slot-entry-owner}
use Rattle.ibft_table_laws.proofs.TableLaws.{present-below, length-le, entry-owner-on, entry_kept}
use Rattle.ibft_build_rules.specs.RecordRange.{marks_at, nics_at, nics_given, targets_given, nic_image, range_size, image_at, length_given}
use Rattle.ibft_build_rules.specs.RecordRange.{start_given, bytes_given, content_given, record_given}
use Rattle.ibft_build_rules.specs.Rebuild.{mark}
use Rattle.ibft_build_rules.specs.Refusals.{contents_verdict}
use Rattle.ibft_build_rules.specs.Plan.{length_built}
use Rattle.ibft_build_rules.specs.Build.{answer_of, room_after}
use Rattle.ibft_build_rules.specs.RebuildPromises.{Clean}
use Rattle.ibft_build_rules.proofs.ReadsLaws.{Reads}
use Rattle.ibft_build_rules.proofs.RebuildLaws.{record-read, clean-accepted, read-builds}
use Rattle.record_text.specs.Fields.{first_structure, group_of, plain_count, field_count, place_in, field_of}
use Rattle.record_text.specs.Enter.{Draft, group_count, blank_draft}
use Rattle.record_text.specs.Tell.{kind_number}
use Rattle.record_text.specs.Computing.{computing}
use Rattle.record_text_laws.proofs.Entered.{groups_entered}
use Rattle.record_text.proofs.FieldFitsLaws.{kind_in, strings_in, kind-slot, kind-fits, field-few, Covered, field-covers}
use Rattle.record_text_laws.proofs.RangePlaceLaws.{image_by, mark_by, seat_by, words_by, base_by, image-by, base-slot, Used, used-named}
use Rattle.record_text_laws.proofs.RangePlaceLaws.{size_by, size-by, field-inside, seat-inside, words_inside, mark-inside}
use Rattle.record_text_laws.proofs.BlankLaws.{nics_of, targets_of}
use Rattle.record_text.proofs.HeldLaws.{holds_group, source, holds-slot, source-slot, plain-inside}
use Rattle.record_text_laws.proofs.LentLaws.{Lent, nics-held, targets-held, size-most, used-present, used-held, used-sits}
use Rattle.record_text_laws.proofs.KeptLaws.{StringFilled, seat_held}
use Rattle.record_text_laws.proofs.FilledLaws.{entries_to, Filled}
use Rattle.record_text_laws.proofs.FilledStepLaws.{filled-groups}

-- two parts that are equal byte by byte
part-equal : (u v : List ℕ) (a b n : ℕ) → a + n ≤ length u → b + n ≤ length v → ((i : ℕ) → i < n → byte u (a + i) ≡ byte v (b + i)) → part u a n ≡ part v b n
part-equal u v a b n p q same =
    bytes-elements (part u a n) v b n (part_length u a n p) (λ i h. part_at u a n i h ∙ same i h) ∙ bytes-part v b n q

entries-all : entries_to group_count 0 ≡ entry_count
unfolding entries_to computing
entries-all = refl

module _ {t marks range strings : List ℕ} (lent : Lent t marks range strings) where
  abbrev nics : ℕ
  nics = nics_of marks

  abbrev targets : ℕ
  targets = targets_of marks

  abbrev d : Draft
  d = groups_entered (record_of t) group_count (blank_draft marks range strings)

  -- what is left
  abbrev range_left : List ℕ
  range_left = take (range_size d.range) d.range

  abbrev strings_left : List ℕ
  strings_left = take d.used d.strings

  filled : Filled t marks range strings group_count 0 d
  filled = filled-groups lent group_count (omega arith)

  abbrev size : ℕ
  size = size_by nics targets

  size_is : range_size d.range ≡ size
  size_is = size-by nics targets d.range filled.nics-are filled.targets-are

  range-long : length range_left ≡ size
  range-long = length-take-le (range_size d.range) d.range (omega (arith, size_is, size-most lent, filled.long)) ∙ size_is

  byte_left : (i : ℕ) → i < size → byte range_left i ≡ byte d.range i
  byte_left i h = get_or-take (range_size d.range) d.range i 0 (omega (arith, size_is))

  -- the strings have room for 255 bytes of every entry
  strings-long : length strings_left ≡ d.used
  strings-long = length-take-le d.used d.strings (omega (arith, filled.used, entries-all, filled.room, lent.roomy))

  nics-left : nics_given range_left ≡ nics
  unfolding size_by nic_image
  nics-left = byte_left nics_at (omega arith) ∙ filled.nics-are

  targets-left : targets_given range_left ≡ targets
  unfolding size_by nic_image
  targets-left = byte_left (nics_at + 1) (omega arith) ∙ filled.targets-are

  image-is : (k : ℕ) → image_at range_left k ≡ image_by nics k
  image-is = image-by range_left nics nics-left

  -- ---- fields that are no strings

  module _ (g n : ℕ) (h : g < group_count) (on : holds_group t g ≡ true) (l : n < plain_count (kind_number g)) where
    plain-below : n < field_count (kind_number g)
    unfolding plain_count
    plain-below = omega arith

    field-byte : (j : ℕ) → j < (field_of (kind_number g) n).width
        → byte range_left (base_by nics g + ((field_of (kind_number g) n).at + j)) ≡ byte t (source t g + ((field_of (kind_number g) n).at + j))
    field-byte j m =
        byte_left (base_by nics g + ((field_of (kind_number g) n).at + j))
        (omega (arith, field-inside nics targets g n h (used-held lent g h on) plain-below))
        ∙ (filled.fields g n h plain-below (omega (arith, field-few g h, plain-below))).plain on l j m

    field-part : part range_left (base_by nics g + (field_of (kind_number g) n).at) (field_of (kind_number g) n).width
        ≡ part t (source t g + (field_of (kind_number g) n).at) (field_of (kind_number g) n).width
    field-part =
        part-equal range_left t (base_by nics g + (field_of (kind_number g) n).at)
        (source t g + (field_of (kind_number g) n).at) (field_of (kind_number g) n).width
        (omega (arith, range-long, field-inside nics targets g n h (used-held lent g h on) plain-below))
        (omega (arith, plain-inside t lent.accepted g n h on l))
        (λ j m. ap (byte range_left) (omega arith) ∙ field-byte j m ∙ ap (byte t) (omega arith))

  -- the header and Control
  oem-id : part range_left 0 6 ≡ part t 10 6
  unfolding base_by source kind_number plain_count field_count field_of place_in group_of
  oem-id = field-part 0 0 (omega arith) refl (omega arith)

  oem-table-id : part range_left 6 8 ≡ part t 16 8
  unfolding base_by source kind_number plain_count field_count field_of place_in group_of
  oem-table-id = field-part 0 1 (omega arith) refl (omega arith)

  flags : byte range_left 14 ≡ byte t 53
  unfolding base_by source kind_number plain_count field_count field_of place_in group_of
  flags = field-byte 1 0 (omega arith) refl (omega arith) 0 (omega arith)

  -- the flags and fields of a structure
  image : (k : ℕ) → present t k ≡ true → (j : ℕ) → flags_at ≤ j → j < (kind_of k).strings_at → byte range_left (image_at range_left k + j) ≡ byte t (start_of t k + j)
  image k on j low high = go (field-covers k (j - flags_at) hk (omega arith))
    where
      hk : k < slot_count
      hk = present-below t k on

      go : Covered k (flags_at + (j - flags_at)) → byte range_left (image_at range_left k + j) ≡ byte t (start_of t k + j)
      go c =
          let from = c.from in
          let i : ℕ = j - (field_of (kind_in k) c.field).at in
          let own =
          rw (kind-slot k, base-slot nics k, source-slot t k) at (field-byte (first_structure + k) c.field (omega (arith, hk)) (holds-slot t k ∙ on)) in
          ap (byte range_left) (omega (arith, image-is k)) ∙ own c.plain i (omega (arith, c.below)) ∙ ap (byte t) (omega arith)

  -- ---- seats

  seat-byte : (k : ℕ) → k < slot_count → (named_count ≤ k → present t k ≡ true) → byte range_left (seat_by nics k) ≡ seat_held t k
  seat-byte k h sits =
      byte_left (seat_by nics k) (seat-inside nics targets k h (used-sits lent k h sits))
      ∙ filled.seated k h (omega arith) sits

  slot-mark : (k : ℕ) → k < named_count → byte range_left (marks_at + k) ≡ mark (present t k)
  unfolding seat_by seat_held
  slot-mark k h = rw (lt-ltb k named_count h) at (seat-byte k (omega arith) (λ low. absurd (omega arith)))

  index : (k : ℕ) → named_count ≤ k → present t k ≡ true → byte range_left (image_at range_left k + 4) ≡ byte t (start_of t k + 4)
  unfolding seat_by seat_held
  index k low on = rw (image-is k) (rw (le-ltb k named_count low) at (seat-byte k (present-below t k on) (λ low. on)))

  -- ---- strings

  module _ (k m : ℕ) (hk : k < slot_count) (hm : m < strings_in k) (used : Used nics targets (first_structure + k)) where
    string-filled : StringFilled t nics k m d
    string-filled =
        let fits = kind-fits k hk in
        let below : plain_count (kind_in k) + m < field_count (kind_number (first_structure + k)) = omega (arith, fits.fields, ap field_count (kind-slot k)) in
        (filled.fields (first_structure + k) (plain_count (kind_in k) + m) (omega arith) below
        (omega (arith, fits.few, fits.fields))).string k m hk hm refl refl used

    mark-byte : byte range_left (mark_by nics (first_entry k + m)) ≡ mark (holds_entry t (first_entry k + m))
    mark-byte = byte_left (mark_by nics (first_entry k + m)) (mark-inside nics targets k hk used m hm) ∙ string-filled.marked

    word-left : (i : ℕ) → i + 1 < 4 → word16 range_left (words_by nics k m + i) ≡ word16 d.range (words_by nics k m + i)
    word-left i h =
        let inside = words_inside nics targets k hk used m hm in
        omega (arith, byte_left (words_by nics k m + i) (omega arith), byte_left (words_by nics k m + i + 1) (omega arith))

  extra-mark : (k : ℕ) → named_count ≤ k → present t k ≡ true → (j : ℕ) → j < strings_in k
      → byte range_left (image_at range_left k + (kind_of k).length + j) ≡ mark (holds_entry t (first_entry k + j))
  unfolding mark_by
  extra-mark k low on j h =
      let hk : k < slot_count = present-below t k on in
      let e : ℕ = first_entry k + j in
      let owner : owner_of e ≡ k = slot-entry-owner k j hk h in
      let own : e - first_entry k ≡ j = omega arith in
      let high : named_entries ≤ e =
      elim (dec_lt e named_entries) [
        | yes l ↦ absurd (omega (arith, owner-named e l))
        | no l ↦ omega arith
      ] in
      rw (image-is k)
      (rw (le-ltb e named_entries high, owner, own) at (mark-byte k j hk h (used-present lent k hk on)))

  -- entry n, by its slot and its number there
  module _ (n : ℕ) (h : n < entry_count) where
    abbrev slot : ℕ
    slot = owner_of n

    abbrev own : ℕ
    own = n - first_entry (owner_of n)

    own_below : own < strings_in slot
    own_below = omega (arith, (entry-fits n h).from, (entry-fits n h).below)

    entry-is : first_entry slot + own ≡ n
    entry-is = omega (arith, (entry-fits n h).from)

    words_are : words_by nics slot own ≡ image_at range_left slot + (string_of n).at
    unfolding words_by
    words_are = omega (arith, image-is slot, (entry-fits n h).place)

    module _ (on : holds_entry t n ≡ true) where
      used-here : Used nics targets (first_structure + slot)
      used-here = used-present lent slot (entry-fits n h).owner (entry-owner-on t n on)

      entry-filled : StringFilled t nics slot own d
      entry-filled = string-filled slot own (entry-fits n h).owner own_below used-here

      there : holds_entry t (first_entry slot + own) ≡ true
      there = ap (holds_entry t) entry-is ∙ on

      long : length_given range_left n ≡ size_of t n
      unfolding length_given
      long =
          ap (word16 range_left) (omega (arith, words_are))
          ∙ word-left slot own (entry-fits n h).owner own_below used-here 0 (omega arith)
          ∙ ap (word16 d.range) (omega arith)
          ∙ entry-filled.size there
          ∙ ap (size_of t) entry-is

      start_is : start_given range_left n ≡ word16 d.range (words_by nics slot own + 2)
      unfolding start_given
      start_is =
          ap (word16 range_left) (omega (arith, words_are)) ∙ word-left slot own (entry-fits n h).owner own_below used-here 2 (omega arith)

      inside : start_given range_left n + length_given range_left n ≤ length strings_left
      inside = omega (arith, start_is, long, entry-filled.inside there, ap (size_of t) entry-is, strings-long)

      bytes : bytes_given range_left strings_left n ≡ part t (offset_of t n) (size_of t n)
      unfolding bytes_given
      bytes =
          ap (part strings_left (start_given range_left n)) long
          ∙ part-equal strings_left t (start_given range_left n) (offset_of t n) (size_of t n) (omega (arith, inside, long))
          (omega (arith, (entry_kept t lent.accepted n h on).high, length-le t lent.accepted))
          (λ i few.
          get_or-take d.used d.strings (start_given range_left n + i) 0 (omega (arith, inside, long, strings-long))
          ∙ ap (λ (s : ℕ). byte d.strings (s + i)) start_is
          ∙ entry-filled.bytes there i (omega (arith, ap (size_of t) entry-is))
          ∙ ap (λ (e : ℕ). byte t (offset_of t e + i)) entry-is)

  entry-mark : (n : ℕ) → n < named_entries → byte range_left (marks_at + named_count + n) ≡ mark (holds_entry t n)
  unfolding mark_by
  entry-mark n l =
      let h : n < entry_count = omega arith in
      let e = entry-is n h in
      rw (lt-ltb n named_entries l) at
      (rw e at
      (mark-byte (owner_of n) (n - first_entry (owner_of n)) (entry-fits n h).owner (own_below n h)
      (used-named nics targets (first_structure + owner_of n) (omega (arith, owner-named n l)))))

  -- ---- all of it

  pub entered-reads : Reads t range_left strings_left
  entered-reads = record {
    size = range-long ∙ sym (size-by nics targets range_left nics-left targets-left);
    oem-id = oem-id;
    oem-table-id = oem-table-id;
    flags = flags;
    nics = nics-left ∙ nics-held lent;
    targets = targets-left ∙ targets-held lent;
    slot-mark = slot-mark;
    entry-mark = entry-mark;
    extra-mark = extra-mark;
    index = index;
    image = image;
    long = long;
    inside = inside;
    bytes = bytes;
  }

  pub entered-record : record_given range_left strings_left ≡ record_of t
  entered-record = record-read t range_left strings_left lent.accepted entered-reads

  pub entered-builds : Clean t → contents_verdict range_left strings_left ≡ Accepted
  entered-builds = clean-accepted t range_left strings_left lent.accepted entered-reads

  pub entered-built : Clean t → (room : List ℕ) → length_built (content_given range_left strings_left) ≤ length room
      → ((answer_of range_left strings_left (length room)).refusal.number ≡ 0) × (record_of (room_after range_left strings_left room) ≡ record_of t)
  entered-built = read-builds t range_left strings_left lent.accepted entered-reads
