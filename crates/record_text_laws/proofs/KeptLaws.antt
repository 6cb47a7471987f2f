-- What it means that a field of an accepted table is filled in a draft, and that it stays filled while fields of other cells
-- are entered.
--     StringFilled, FieldFilled, SeatFilled     what is filled
--     Kept, kept_self                        what entering a field keeps
--     kept_field, kept-seat                  what is filled stays so
-- Assumes nothing.
use mathlib.Core.Path.{◌≡◌, refl, sym, ap, ◌∙◌, subst}
use mathlib.Core.Bool.{true, cond}
use mathlib.Core.List.{List}
use Prim.Native.Nat.{ℕ, ◌+◌, ◌≤◌, ◌<◌}
use native.Mathlib.Omega.{arith}
use lib.ListN.{length}
use lib.Dec.{ltb}
use Rattle.octets.specs.Octets.{byte, word16}
use Rattle.ibft_layout.specs.Layout.{slot_count, named_count, first_entry}
use Rattle.ibft_table.specs.Table.{start_of, present, size_of, offset_of, holds_entry}
use Rattle.ibft_build_rules.specs.Rebuild.{mark}
use Rattle.record_text.specs.Fields.{first_structure, field_count, plain_count, field_of}
use Rattle.record_text.specs.Enter.{Draft, group_count}
use Rattle.record_text.specs.Tell.{kind_number}
use Rattle.record_text.proofs.FieldFitsLaws.{kind_in, strings_in, seat, field-few}
use Rattle.record_text_laws.proofs.RangePlaceLaws.{mark_by, seat_by, words_by, base_by, Placed, Used}
use Rattle.record_text_laws.proofs.CellLaws.{cell_of, cell, cell-seat, cell_field, cell-words, cell-mark}
use Rattle.record_text_laws.proofs.BlankLaws.{nics_of, targets_of}
use Rattle.record_text.proofs.HeldLaws.{holds_group, source}
use Rattle.record_text_laws.proofs.LentLaws.{Lent, used-held, used-sits}

-- ---- what is filled

-- string m of slot k: its mark, its length; from its start on the bytes that the table has
pub record StringFilled (t : List ℕ) (nics k m : ℕ) (d : Draft) : Type 0 where
  pub marked : byte d.range (mark_by nics (first_entry k + m)) ≡ mark (holds_entry t (first_entry k + m))
  pub size : holds_entry t (first_entry k + m) ≡ true → word16 d.range (words_by nics k m) ≡ size_of t (first_entry k + m)
  pub inside : holds_entry t (first_entry k + m) ≡ true → word16 d.range (words_by nics k m + 2) + size_of t (first_entry k + m) ≤ d.used
  pub bytes : holds_entry t (first_entry k + m) ≡ true → (i : ℕ) → i < size_of t (first_entry k + m)
      → byte d.strings (word16 d.range (words_by nics k m + 2) + i) ≡ byte t (offset_of t (first_entry k + m) + i)

-- field n of group g
pub record FieldFilled (t : List ℕ) (nics targets g n : ℕ) (d : Draft) : Type 0 where
  pub plain : holds_group t g ≡ true → n < plain_count (kind_number g) → (j : ℕ) → j < (field_of (kind_number g) n).width
      → byte d.range (base_by nics g + ((field_of (kind_number g) n).at + j)) ≡ byte t (source t g + ((field_of (kind_number g) n).at + j))
  pub string : (k m : ℕ) → k < slot_count → m < strings_in k → g ≡ first_structure + k → n ≡ plain_count (kind_in k) + m → Used nics targets g
      → StringFilled t nics k m d

-- the seat of slot k: the mark of a named one, the Index of an extra that is present
unfoldable pub seat_held : List ℕ → ℕ → ℕ
seat_held t k = cond (ltb k named_count) (mark (present t k)) (byte t (start_of t k + 4))

abbrev pub SeatFilled : List ℕ → ℕ → ℕ → Draft → Type 0
SeatFilled t nics k d = (named_count ≤ k → present t k ≡ true) → byte d.range (seat_by nics k) ≡ seat_held t k

-- entering field n of group g changes nothing but its cell and the group's seat, and adds to the strings
pub record Kept (nics g n : ℕ) (d e : Draft) : Type 0 where
  pub marks : e.marks ≡ d.marks
  pub long : length e.range ≡ length d.range
  pub room : length e.strings ≡ length d.strings
  pub range : (i : ℕ) → (cell nics i ≡ cell_of g n → ⊥) → (cell nics i ≡ cell_of g seat → ⊥) → byte e.range i ≡ byte d.range i
  pub grows : d.used ≤ e.used
  pub strings : (i : ℕ) → i < d.used → byte e.strings i ≡ byte d.strings i

pub kept_self : (nics g n : ℕ) (d : Draft) → Kept nics g n d d
kept_self nics g n d = record {
  marks = refl;
  long = refl;
  room = refl;
  range = λ i p q. refl;
  grows = omega arith;
  strings = λ i h. refl;
}

-- ---- it stays so

module _ {t marks range strings : List ℕ} (lent : Lent t marks range strings) where
  abbrev nics : ℕ
  nics = nics_of marks

  abbrev targets : ℕ
  targets = targets_of marks

  module _ (g n : ℕ) (d e : Draft) (kept : Kept nics g n d e) where
    -- the cell of another field
    module _ (g' n' : ℕ) (h : g' < group_count) (l : n' < field_count (kind_number g')) (other : cell_of g' n' ≡ cell_of g n → ⊥) where
      other-kept : (i : ℕ) → cell nics i ≡ cell_of g' n' → byte e.range i ≡ byte d.range i
      other-kept i is = kept.range i (λ z. other (sym is ∙ z)) (λ z. omega (arith, field-few g' h))

      kept-string : (k m : ℕ) → k < slot_count → m < strings_in k → g' ≡ first_structure + k → n' ≡ plain_count (kind_in k) + m → Used nics targets g'
          → StringFilled t nics k m d → StringFilled t nics k m e
      kept-string k m hk hm is own used filled =
          let placed : Placed nics (first_structure + k) = subst (Placed nics) is used.placed in
          let here : cell_of (first_structure + k) (plain_count (kind_in k) + m) ≡ cell_of g' n' = omega arith in
          let same : (j : ℕ) → j < 4 → byte e.range (words_by nics k m + j) ≡ byte d.range (words_by nics k m + j) =
          λ j few. other-kept (words_by nics k m + j) (cell-words nics k m j hk placed hm few ∙ here) in
          let first : byte e.range (words_by nics k m) ≡ byte d.range (words_by nics k m) =
          ap (byte e.range) (omega arith) ∙ same 0 (omega arith) ∙ ap (byte d.range) (omega arith) in
          let last : byte e.range (words_by nics k m + 2 + 1) ≡ byte d.range (words_by nics k m + 2 + 1) =
          ap (byte e.range) (omega arith) ∙ same 3 (omega arith) ∙ ap (byte d.range) (omega arith) in
          let start : word16 e.range (words_by nics k m + 2) ≡ word16 d.range (words_by nics k m + 2) = omega (arith, same 2 (omega arith), last) in
          record {
            marked = other-kept (mark_by nics (first_entry k + m)) (cell-mark nics k m hk placed hm ∙ here) ∙ filled.marked;
            size = λ on. omega (arith, first, same 1 (omega arith), filled.size on);
            inside = λ on. omega (arith, start, filled.inside on, kept.grows);
            bytes = λ on i few.
                ap (λ (s : ℕ). byte e.strings (s + i)) start
                ∙ kept.strings (word16 d.range (words_by nics k m + 2) + i) (omega (arith, filled.inside on))
                ∙ filled.bytes on i few;
          }

      pub kept_field : FieldFilled t nics targets g' n' d → FieldFilled t nics targets g' n' e
      kept_field filled = record {
        plain = λ on p j m. other-kept _ (cell_field nics g' n' j h (used-held lent g' h on).placed l m) ∙ filled.plain on p j m;
        string = λ k m hk hm is own used. kept-string k m hk hm is own used (filled.string k m hk hm is own used);
      }

    pub kept-seat : (k : ℕ) → k < slot_count → (first_structure + k ≡ g → ⊥) → n < seat → SeatFilled t nics k d → SeatFilled t nics k e
    kept-seat k h other few filled sits =
        let here = cell-seat nics k h (used-sits lent k h sits).placed in
        kept.range (seat_by nics k) (λ z. omega arith) (λ z. other (omega arith)) ∙ filled sits
