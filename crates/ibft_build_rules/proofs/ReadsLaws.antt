-- What a build reads in a record range that says what an accepted table holds: the table's fields, its extras, and a mark for
-- each structure and each entry. By these the structures and entries given are those of the table.
--     Reads                                          the range r, with the strings s, says what the table t holds
--     given-same, entry-same                         the structures and entries given are those that the table holds
--     named-marks, nic-marks, target-marks           the presence marks are 0 or 1
-- Assumes nothing.
use mathlib.Core.Path.{◌≡◌, refl, sym, ap, ◌∙◌, subst}
use mathlib.Core.Bool.{Bool, true, false}
use mathlib.Core.List.{List}
use Prim.Native.Nat.{ℕ, ◌+◌, ◌-◌, ◌≤◌, ◌<◌}
use native.Mathlib.Decide.{dec_lt}
use native.Mathlib.Omega.{arith}
use borrow.Author.Tests.{lt-ltb, le-ltb}
use lib.ListN.{length}
use lib.Dec.{eqb, ltb}
use Rattle.octets.specs.Octets.{byte, part}
use Rattle.ibft_layout.specs.Layout.{Kind, nic, target, kind_of, flags_at, entry_count, slot_count, named_count, named_entries, extra_most}
use Rattle.ibft_layout.specs.Layout.{extra_nics, extra_targets, owner_of, first_entry}
use Rattle.ibft_table.specs.Table.{starts_of, nics_in, holds_in, start_of, present, size_of, offset_of, holds_entry}
use Rattle.ibft_table.specs.Check.{check_of}
use Rattle.table_header.specs.Verdict.{Accepted}
use Rattle.ibft_layout.proofs.LayoutLaws.{owner-later}
use Rattle.ibft_table_laws.proofs.LayoutLaws.{entry-fits}
use Rattle.ibft_table_laws.proofs.TableLaws.{present-past, facts}
use Rattle.ibft_table_laws.proofs.NumberingLaws.{ExtrasOf, nic-extras, target-extras, nics-most, nics-are, targets-most, targets-are}
use Rattle.ibft_build_rules.specs.RecordRange.{marks_at, nics_given, targets_given, nic_image, target_image, range_size, image_at, mark_at}
use Rattle.ibft_build_rules.specs.RecordRange.{structure_given, entry_given, length_given, start_given, bytes_given}
use Rattle.ibft_build_rules.specs.Rebuild.{mark, targets_in}
use Rattle.ibft_build_rules.proofs.RecordRangeLaws.{nic-given, target-given, nic-image, target-image, given-past}

-- what the range r, with the strings s, says of the table t where a build reads it
pub record Reads (t r s : List ℕ) : Type 0 where
  pub size : length r ≡ range_size r
  pub oem-id : part r 0 6 ≡ part t 10 6
  pub oem-table-id : part r 6 8 ≡ part t 16 8
  pub flags : byte r 14 ≡ byte t 53
  pub nics : nics_given r ≡ nics_in (starts_of t)
  pub targets : targets_given r ≡ targets_in (starts_of t)
  -- the presence marks: of the named slots, of their entries, of the entries of an extra
  pub slot-mark : (k : ℕ) → k < named_count → byte r (marks_at + k) ≡ mark (present t k)
  pub entry-mark : (n : ℕ) → n < named_entries → byte r (marks_at + named_count + n) ≡ mark (holds_entry t n)
  pub extra-mark : (k : ℕ) → named_count ≤ k → present t k ≡ true → (j : ℕ) → j < length (kind_of k).string_fields
      → byte r (image_at r k + (kind_of k).length + j) ≡ mark (holds_entry t (first_entry k + j))
  -- an extra's Index; the flags and fields of a structure; an entry's length, its start and its bytes
  pub index : (k : ℕ) → named_count ≤ k → present t k ≡ true → byte r (image_at r k + 4) ≡ byte t (start_of t k + 4)
  pub image : (k : ℕ) → present t k ≡ true → (j : ℕ) → flags_at ≤ j → j < (kind_of k).strings_at → byte r (image_at r k + j) ≡ byte t (start_of t k + j)
  pub long : (n : ℕ) → n < entry_count → holds_entry t n ≡ true → length_given r n ≡ size_of t n
  pub inside : (n : ℕ) → n < entry_count → holds_entry t n ≡ true → start_given r n + length_given r n ≤ length s
  pub bytes : (n : ℕ) → n < entry_count → holds_entry t n ≡ true → bytes_given r s n ≡ part t (offset_of t n) (size_of t n)

-- a mark is 0 or 1, and says what it marks
mark-most : (b : Bool) → mark b ≤ 1
mark-most true = omega arith
mark-most false = omega arith

mark-says : (b : Bool) → eqb (mark b) 1 ≡ b
mark-says true = refl
mark-says false = refl

-- a named slot is given where its mark says so
named-given : (r : List ℕ) (k : ℕ) → k < named_count → structure_given r k ≡ eqb (byte r (marks_at + k)) 1
unfolding structure_given
named-given r k h = rw (lt-ltb k named_count h)

module _ (t r s : List ℕ) (ok : check_of t ≡ Accepted) (reads : Reads t r s) where
  -- ---- what is given

  pub given-same : (k : ℕ) → structure_given r k ≡ present t k
  unfolding targets_in
  given-same k =
      elim (dec_lt k named_count) [
        | yes l ↦ named-given r k l ∙ ap (λ (m : ℕ). eqb m 1) (reads.slot-mark k l) ∙ mark-says (present t k)
        | no l ↦ elim (dec_lt k extra_targets) [
          | yes m ↦
              let i : ℕ = k - extra_nics in
              let h : i < extra_most = omega arith in
              let z : k ≡ extra_nics + i = omega arith in
              rw z (nic-given r i h ∙ ap (ltb i) reads.nics ∙ sym (nics-are t (facts t ok) i h))
          | no m ↦ elim (dec_lt k slot_count) [
            | yes below ↦
                let i : ℕ = k - extra_targets in
                let h : i < extra_most = omega arith in
                let z : k ≡ extra_targets + i = omega arith in
                rw z (target-given r i h ∙ ap (ltb i) reads.targets ∙ sym (targets-are t (facts t ok) i h))
            | no past ↦ given-past r k (omega arith) ∙ sym (present-past t k (omega arith))
          ]
        ]
      ]

  mark-read : (n : ℕ) → n < entry_count → present t (owner_of n) ≡ true → byte r (mark_at r n) ≡ mark (holds_entry t n)
  unfolding mark_at
  mark-read n h on =
      elim (dec_lt n named_entries) [
        | yes l ↦ rw (lt-ltb n named_entries l) (reads.entry-mark n l)
        | no l ↦
            let fits = entry-fits n h in
            let own : n - first_entry (owner_of n) < length (kind_of (owner_of n)).string_fields = omega (arith, fits.from, fits.below) in
            rw (le-ltb n named_entries (omega arith))
            (reads.extra-mark (owner_of n) (owner-later n (omega arith)) on (n - first_entry (owner_of n)) own
            ∙ ap (λ (m : ℕ). mark (holds_entry t m)) (omega (arith, fits.from)))
      ]

  pub entry-same : (n : ℕ) → n < entry_count → entry_given r n ≡ holds_entry t n
  unfolding entry_given holds_in
  entry-same n h = go (present t (owner_of n)) refl
    where
      go : (b : Bool) → present t (owner_of n) ≡ b → entry_given r n ≡ holds_entry t n
      go true on = rw (given-same (owner_of n) ∙ on) (ap (λ (m : ℕ). eqb m 1) (mark-read n h on) ∙ mark-says (holds_entry t n))
      go false off = rw (given-same (owner_of n), off)

  -- ---- the marks are 0 or 1

  pub named-marks : (j : ℕ) → j < named_count + named_entries → byte r (marks_at + j) ≤ 1
  named-marks j h =
      elim (dec_lt j named_count) [
        | yes l ↦ omega (arith, reads.slot-mark j l, mark-most (present t j))
        | no l ↦
            let n : ℕ = j - named_count in
            let z : marks_at + j ≡ marks_at + named_count + n = omega arith in
            rw z (omega (arith, reads.entry-mark n (omega arith), mark-most (holds_entry t n)))
      ]

  extra-marks : (kind : Kind) (first : ℕ) (o : ExtrasOf kind first) (i : ℕ) → i < extra_most → present t (first + i) ≡ true
      → (j : ℕ) → j < length kind.string_fields → byte r (image_at r (first + i) + kind.length + j) ≤ 1
  extra-marks kind first o i h on =
      subst (λ (κ : Kind). (j : ℕ) → j < length κ.string_fields → byte r (image_at r (first + i) + κ.length + j) ≤ 1)
      (o.kinds i h)
      (λ j l. omega (arith, reads.extra-mark (first + i) (omega (arith, o.low)) on j l, mark-most (holds_entry t (first_entry (first + i) + j))))

  pub nic-marks : (i j : ℕ) → i < nics_in (starts_of t) → j < length nic.string_fields → byte r (nic_image i + nic.length + j) ≤ 1
  nic-marks i j l h =
      let f = facts t ok in
      let below : i < extra_most = omega (arith, nics-most t f) in
      rw (nic-image r i below) at (extra-marks nic extra_nics nic-extras i below (nics-are t f i below ∙ lt-ltb i (nics_in (starts_of t)) l) j h)

  pub target-marks : (i j : ℕ) → i < targets_in (starts_of t) → j < length target.string_fields
      → byte r (target_image r i + target.length + j) ≤ 1
  unfolding targets_in
  target-marks i j l h =
      let f = facts t ok in
      let below : i < extra_most = omega (arith, targets-most t f) in
      rw (target-image r i below) at (extra-marks target extra_targets target-extras i below (targets-are t f i below ∙ lt-ltb i (targets_in (starts_of t)) l) j h)
