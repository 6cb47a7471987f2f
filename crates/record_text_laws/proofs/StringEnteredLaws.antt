-- A string that is present is written behind those before it; its mark, its length and its start are written into its cell. Of
-- a string that is missing, and of a structure that is absent, nothing is written, and the range is blank where they would
-- stand.
--     string-entered      a string
--     missing-entered     a string that is missing
--     absent-entered      a field of a structure that is absent
-- Assumes nothing.
use mathlib.Core.Path.{◌≡◌, refl, sym, ap, ap₂, ◌∙◌, subst}
use mathlib.Core.Logic.{inl, inr, ⊎_elim}
use mathlib.Core.Bool.{true, false}
use mathlib.Core.List.{List, [], ◌∷◌, ◌++◌}
use Prim.Native.Nat.{ℕ, suc, ◌+◌, ◌-◌, ◌*◌, ◌≤◌, ◌<◌}
use native.Mathlib.Decide.{dec_lt}
use native.Mathlib.Omega.{arith}
use borrow.Author.Tests.{lt-ltb}
use lib.ListN.{length}
use Rattle.octets.specs.Octets.{byte, word16, part, le16, write}
use Rattle.octets.proofs.CountingLaws.{clash}
use Rattle.octets.proofs.ReadLaws.{part_at}
use Rattle.octets.proofs.WriteLaws.{length-write, write-before, write-after, write-at}
use Rattle.octets.proofs.LiesLaws.{Lies, lies-front, lies-last, lies_within}
use Rattle.octets.proofs.WordLaws.{word16-back}
use Rattle.ibft_layout.specs.Layout.{kind_of, slot_count, named_count, owner_of, first_entry}
use Rattle.ibft_table.specs.Table.{holds_in, present, size_of, offset_of, holds_entry}
use Rattle.ibft_table.specs.Record.{record_of}
use Rattle.ibft_table_laws.proofs.LayoutLaws.{entry-fits, slot-entry, slot-entry-owner}
use Rattle.ibft_table_laws.proofs.TableLaws.{entry-owner-on, entry_kept, entry_length}
use Rattle.ibft_build_rules.specs.Rebuild.{mark}
use Rattle.record_text.specs.Fields.{first_structure, field_count, plain_count, field_of}
use Rattle.record_text.specs.Enter.{Draft, group_count, value_place, entry_of, present as with_seat, with_string}
use Rattle.record_text.specs.Tell.{kind_number}
use Rattle.record_text.specs.declared.fields.FieldLayout.{FieldLayout}
use Rattle.record_text.specs.declared.fields.FieldName.{FieldName}
use Rattle.record_text_laws.proofs.Entered.{name_in}
use Rattle.record_text.proofs.FieldFitsLaws.{kind_in, strings_in, seat, kind-fits, word-field}
use Rattle.record_text_laws.proofs.RangePlaceLaws.{mark_by, seat_by, words_by, base_by, mark-by, base-slot, mark-apart, Used}
use Rattle.record_text_laws.proofs.RangePlaceLaws.{seat-inside, words_inside, mark-inside}
use Rattle.record_text_laws.proofs.CellLaws.{cell_of, cell, cell-seat, cell-words, cell-mark, cell-keeps}
use Rattle.record_text_laws.proofs.BlankLaws.{nics_of, targets_of}
use Rattle.record_text.proofs.HeldLaws.{holds_group, holds-slot}
use Rattle.record_text_laws.proofs.LentLaws.{Lent, size-most, used-present, used-sits}
use Rattle.record_text_laws.proofs.KeptLaws.{StringFilled, seat_held, SeatFilled, kept_self}
use Rattle.record_text_laws.proofs.FilledLaws.{entries_to, more-used, Filled, Enters, field_below, blank-here}
use Rattle.record_text_laws.proofs.ValueEnteredLaws.{SeatEntered, kind-is, slot_is, place-slot, slot-entered, plain-no-string}

module _ {t marks range strings : List ℕ} (lent : Lent t marks range strings) where
  abbrev nics : ℕ
  nics = nics_of marks

  abbrev targets : ℕ
  targets = targets_of marks

  module _ {g n : ℕ} {d : Draft} (h : g < group_count) (l : n < field_count (kind_number g)) (filled : Filled t marks range strings g n d) where
    abbrev name : FieldName
    name = name_in (record_of t) g n

    -- ---- a string

    module _ (k m : ℕ) (hk : k < slot_count) (hm : m < strings_in k) (z : first_structure + k ≡ g) (is : n ≡ plain_count (kind_in k) + m)
        (on : holds_entry t (first_entry k + m) ≡ true) where
      abbrev entry : ℕ
      entry = first_entry k + m

      abbrev text : List ℕ
      text = part t (offset_of t entry) (size_of t entry)

      there : present t k ≡ true
      there = ap (present t) (sym (slot-entry-owner k m hk hm)) ∙ entry-owner-on t entry on

      entry-is : entry_of d name ≡ entry
      unfolding entry_of
      entry-is =
          let own : n - plain_count (kind_number g) ≡ m = omega (arith, ap plain_count (kind-is lent h l filled k hk z there)) in
          rw (slot_is lent h l filled k hk z there, own)

      words_are : value_place d name ≡ words_by nics k m
      unfolding words_by
      words_are =
          let f = word-field k m hk hm in
          let at : (field_of (kind_number g) n).at ≡ (kind_of k).strings_at + 4 * m =
          ap₂ (λ (q n : ℕ). (field_of q n).at) (kind-is lent h l filled k hk z there) is ∙ ap (λ (f : FieldLayout). f.at) f in
          omega (arith, place-slot lent h l filled k hk z there, at, ap (base_by nics) (sym z) ∙ base-slot nics k)

      used-here : Used nics targets (first_structure + k)
      used-here = used-present lent k hk there

      -- its bytes, how many there are, and the room they have
      size_is : length text ≡ size_of t entry
      size_is = entry_length t lent.accepted entry (slot-entry k m hk hm) on

      size_few : size_of t entry ≤ 255
      size_few = omega (arith, (entry_kept t lent.accepted entry (slot-entry k m hk hm) on).longest, (entry-fits entry (slot-entry k m hk hm)).longest)

      entries-are : (entries_to g n ≡ entry) × (entries_to g (suc n) ≡ entry + 1)
      unfolding entries_to
      entries-are =
          let slot : g - first_structure ≡ k = omega arith in
          let q = ap plain_count (kind-is lent h l filled k hk z there) in
          (rw slot (omega arith), rw slot (omega arith))

      used-few : d.used ≤ 255 * entry
      used-few = omega (arith, filled.used, entries-are.0)

      -- the range with the mark, and with the words
      abbrev marked_range : List ℕ
      marked_range = write (with_seat d name) (mark_by nics entry) (1 ∷ [])

      abbrev words : List ℕ
      words = le16 (length text) ++ le16 d.used

      abbrev after : List ℕ
      after = write marked_range (words_by nics k m) words

      range-is : (with_string d name text).range ≡ after
      unfolding with_string
      range-is = rw (entry-is, mark-by d.range nics filled.nics-are entry, words_are)

      here : (i : ℕ) → byte (with_string d name text).range i ≡ byte after i
      here i = ap (λ (r : List ℕ). byte r i) range-is

      entered : SeatEntered t nics g n d name
      entered = slot-entered lent h l filled k hk z there

      marked-long : length marked_range ≡ length d.range
      marked-long = length-write (with_seat d name) (mark_by nics entry) (1 ∷ []) ∙ entered.long

      -- what stands where the words and the mark are written
      words-lie : Lies after (words_by nics k m) words
      words-lie i few =
          write-at marked_range (words_by nics k m) words i few
          (omega (arith, marked-long, filled.long, words_inside nics targets k hk used-here m hm, size-most lent))

      size-lies : word16 after (words_by nics k m) ≡ size_of t entry
      size-lies =
          let own = lies_within after words (le16 (length text)) (words_by nics k m) 0 (omega arith) words-lie
          (lies-front (le16 (length text)) (le16 d.used)) in
          ap (word16 after) (omega arith)
          ∙ word16-back after (words_by nics k m + 0) (length text) (omega (arith, size_is, size_few)) own
          ∙ size_is

      start-lies : word16 after (words_by nics k m + 2) ≡ d.used
      start-lies =
          let own = lies_within after words (le16 d.used) (words_by nics k m) 2 (omega arith) words-lie
          (lies-last (le16 (length text)) (le16 d.used) 2 refl) in
          word16-back after (words_by nics k m + 2) d.used (omega (arith, used-few, slot-entry k m hk hm)) own

      mark-lies : byte after (mark_by nics entry) ≡ 1
      mark-lies =
          let at : ℕ = mark_by nics entry in
          ⊎_elim (λ p. write-before marked_range (words_by nics k m) words at p) (λ p. write-after marked_range (words_by nics k m) words at p)
          (mark-apart nics k m hk hm)
          ∙ ap (byte marked_range) (omega arith)
          ∙ write-at (with_seat d name) at (1 ∷ []) 0 (omega arith)
          (omega (arith, entered.long, filled.long, mark-inside nics targets k hk used-here m hm, size-most lent))

      string-filled : StringFilled t nics k m (with_string d name text)
      unfolding with_string
      string-filled =
          let start : word16 (with_string d name text).range (words_by nics k m + 2) ≡ d.used =
          ap (λ (r : List ℕ). word16 r (words_by nics k m + 2)) range-is ∙ start-lies in
          record {
            marked = here (mark_by nics entry) ∙ mark-lies ∙ sym (ap mark on);
            size = λ _. ap (λ (r : List ℕ). word16 r (words_by nics k m)) range-is ∙ size-lies;
            inside = λ _. omega (arith, start, size_is);
            bytes = λ _ i few.
                ap (λ (s : ℕ). byte (write d.strings d.used text) (s + i)) start
                ∙ write-at d.strings d.used text i (omega (arith, size_is))
                (omega (arith, size_few, used-few, slot-entry k m hk hm, filled.room))
                ∙ part_at t (offset_of t entry) (size_of t entry) i few;
          }

      cell-is : cell_of (first_structure + k) (plain_count (kind_in k) + m) ≡ cell_of g n
      cell-is = ap₂ cell_of z (sym is)

      other-cell : (i : ℕ) → (cell nics i ≡ cell_of g n → ⊥) → byte (with_string d name text).range i ≡ byte (with_seat d name) i
      other-cell i p =
          here i
          ∙ cell-keeps nics marked_range (words_by nics k m) words (cell_of g n) i (λ j few. cell-words nics k m j hk used-here.placed hm few ∙ cell-is) p
          ∙ cell-keeps nics (with_seat d name) (mark_by nics entry) (1 ∷ []) (cell_of g n) i
          (λ j few. ap (cell nics) (omega arith) ∙ cell-mark nics k m hk used-here.placed hm ∙ cell-is) p

      pub string-entered : Enters t nics targets g n d (with_string d name text)
      unfolding with_string
      string-entered = record {
        kept = record {
          marks = refl;
          long = ap length range-is ∙ length-write marked_range (words_by nics k m) words ∙ marked-long;
          room = length-write d.strings d.used text;
          range = λ i p q. other-cell i p ∙ entered.other i q;
          grows = omega arith;
          strings = λ i p. write-before d.strings d.used text i p;
        };
        used = omega (arith, filled.used, entries-are.0, entries-are.1, size_is, size_few);
        field = record {
          plain = λ _ plain. absurd (plain-no-string lent h l filled plain k m (sym z) is);
          string = λ k' m' hk' hm' z' is' used.
              let slot : k ≡ k' = omega arith in
              let own : m ≡ m' = omega (arith, ap (λ (k : ℕ). plain_count (kind_in k)) slot) in
              subst (λ (k' : ℕ). StringFilled t nics k' m' (with_string d name text)) slot
              (subst (λ (m' : ℕ). StringFilled t nics k m' (with_string d name text)) own string-filled);
        };
        sits = λ k' hk' z' sits.
            let small = field_below lent h l filled in
            let at = cell-seat nics k' hk' (used-sits lent k' hk' sits).placed in
            other-cell (seat_by nics k') (λ e. omega arith) ∙ entered.here k' hk' z';
      }

    -- ---- what has no line

    module _ (k : ℕ) (hk : k < slot_count) (z : first_structure + k ≡ g) where
      -- a string that is missing
      string-missing : (m : ℕ) → m < strings_in k → n ≡ plain_count (kind_in k) + m → Used nics targets g → holds_entry t (first_entry k + m) ≡ false
          → StringFilled t nics k m d
      string-missing m hm own used off =
          let here : Used nics targets (first_structure + k) = subst (Used nics targets) (sym z) used in
          let fits = kind-fits k hk in
          record {
            marked = blank-here lent h l filled n (inl refl) (λ low. omega (arith, fits.some))
                (λ q e. omega (arith, fits.some)) (mark_by nics (first_entry k + m))
                (mark-inside nics targets k hk here m hm) (cell-mark nics k m hk here.placed hm ∙ ap₂ cell_of z (sym own))
                ∙ sym (ap mark off);
            size = λ on. clash on off;
            inside = λ on. clash on off;
            bytes = λ on. clash on off;
          }

      -- the seat of a structure that is absent, or has been entered
      seat-absent : present t k ≡ false → SeatFilled t nics k d
      unfolding seat_held
      seat-absent off sits =
          elim (dec_lt 0 n) [
            | yes p ↦ filled.seated k hk (omega arith) sits
            | no p ↦ elim (dec_lt k named_count) [
              | yes low ↦
                  let used = used-sits lent k hk sits in
                  blank-here lent h l filled seat (inr (refl, omega arith)) (λ low. omega arith) (λ q e. omega arith) (seat_by nics k)
                  (seat-inside nics targets k hk used) (cell-seat nics k hk used.placed ∙ ap (λ (g : ℕ). cell_of g seat) z)
                  ∙ rw (lt-ltb k named_count low, off)
              | no low ↦ clash (sits (omega arith)) off
            ]
          ]

    -- a string that is missing
    module _ (k m : ℕ) (hk : k < slot_count) (hm : m < strings_in k) (z : first_structure + k ≡ g) (is : n ≡ plain_count (kind_in k) + m) where
      pub missing-entered : holds_entry t (first_entry k + m) ≡ false → Enters t nics targets g n d d
      missing-entered off = record {
        kept = kept_self nics g n d;
        used = omega (arith, filled.used, more-used g n);
        field = record {
          plain = λ _ plain. absurd (plain-no-string lent h l filled plain k m (sym z) is);
          string = λ k' m' hk' hm' z' is' used.
              let slot : k ≡ k' = omega arith in
              let own : m ≡ m' = omega (arith, ap (λ (k : ℕ). plain_count (kind_in k)) slot) in
              string-missing k' hk' (sym z') m' hm' is' used (sym (ap₂ (λ (k m : ℕ). holds_entry t (first_entry k + m)) slot own) ∙ off);
        };
        sits = λ k' hk' z'. filled.seated k' hk' (omega (arith, (kind-fits k hk).some));
      }

    -- a field of a structure that is absent
    pub absent-entered : (k : ℕ) → k < slot_count → first_structure + k ≡ g → present t k ≡ false → Enters t nics targets g n d d
    unfolding holds_in
    absent-entered k hk z off = record {
      kept = kept_self nics g n d;
      used = omega (arith, filled.used, more-used g n);
      field = record {
        plain = λ on. clash on (ap (holds_group t) (sym z) ∙ holds-slot t k ∙ off);
        string = λ k' m' hk' hm' z' is' used.
            let slot : owner_of (first_entry k' + m') ≡ k = slot-entry-owner k' m' hk' hm' ∙ omega arith in
            string-missing k' hk' (sym z') m' hm' is' used (rw (slot, off));
      };
      sits = λ k' hk' z'. seat-absent k' hk' z' (ap (present t) (omega arith) ∙ off);
    }
