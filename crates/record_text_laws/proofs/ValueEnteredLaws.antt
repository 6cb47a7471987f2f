-- A value that is told is written into its cell, and its group's seat with it; a value that is not told is zero, in the table
-- and in the draft.
--     kind-is, slot_is, place-slot   a structure's kind, the slot that the marks give it, and where its field stands
--     plain-no-string                a field is a string or not
--     slot-entered, seat-entered     the seat
--     value-entered, untold          a value that is told, and one that is not
-- Assumes nothing.
use mathlib.Core.Path.{◌≡◌, refl, sym, ap, ap₂, ◌∙◌, subst}
use mathlib.Core.Logic.{inl}
use mathlib.Core.Bool.{true, false, ◌||◌}
use mathlib.Core.List.{List, [], ◌∷◌}
use Prim.Native.Nat.{ℕ, zero, suc, ◌+◌, ◌-◌, ◌≤◌, ◌<◌}
use native.Mathlib.Decide.{dec_lt}
use native.Mathlib.Omega.{arith}
use borrow.Author.Tests.{lt-ltb, le-ltb, eqb-true, not-false}
use lib.ListN.{length}
use lib.Dec.{eqb, ltb}
use Rattle.octets.specs.Octets.{byte, part, all_zero, write}
use Rattle.octets.proofs.CountingLaws.{clash}
use Rattle.octets.proofs.ReadLaws.{part_at}
use Rattle.octets.proofs.TestLaws.{and_both, or-both}
use Rattle.octets.proofs.WriteLaws.{length-write, write-at}
use Rattle.ibft_layout.specs.Layout.{target, slot_count, named_count}
use Rattle.ibft_table.specs.Table.{index_in, start_of, present}
use Rattle.ibft_table.specs.Record.{record_of}
use Rattle.record_text.specs.Fields.{first_structure, is_text, is_always, field_count, plain_count, field_of}
use Rattle.record_text.specs.Enter.{Draft, group_count, slot_of, value_place, seated, present as with_seat, with_value}
use Rattle.record_text.specs.Tell.{slot_in, kind_number, index_held, is_told}
use Rattle.record_text.specs.declared.fields.FieldName.{FieldName}
use Rattle.record_text.specs.declared.fields.FieldLayout.{FieldLayout}
use Rattle.record_text_laws.proofs.Entered.{name_in}
use Rattle.record_text.proofs.FieldFitsLaws.{kind_in, seat, kind-slot, kind-fits, flags-field, port-field}
use Rattle.record_text_laws.proofs.RangePlaceLaws.{seat_by, base_by, image-by, base-slot, Used, field-inside, seat-inside}
use Rattle.record_text_laws.proofs.CellLaws.{cell_of, cell, cell-seat, cell_field, cell-keeps}
use Rattle.record_text_laws.proofs.BlankLaws.{nics_of, targets_of}
use Rattle.record_text.proofs.HeldLaws.{holds_group, source, holds-slot, present-held, index-held, plain-length}
use Rattle.record_text_laws.proofs.LentLaws.{Lent, size-most, used-present, used-held, used-sits}
use Rattle.record_text_laws.proofs.KeptLaws.{seat_held, kept_self}
use Rattle.record_text_laws.proofs.FilledLaws.{more-used, Filled, Enters, field_below, blank-here}

-- a list of zeros
zero-at : (l : List ℕ) → all_zero l ≡ true → (i : ℕ) → byte l i ≡ 0
unfolding all_zero
zero-at [] e i = refl
zero-at (b ∷ l) e zero = eqb-true b 0 (and_both (eqb b 0) (all_zero l) e).0
zero-at (b ∷ l) e (suc i) = zero-at l (and_both (eqb b 0) (all_zero l) e).1 i

-- the range with the seat of field n of group g, named f, and where the field is written
pub record SeatEntered (t : List ℕ) (nics g n : ℕ) (d : Draft) (f : FieldName) : Type 0 where
  pub long : length (with_seat d f) ≡ length d.range
  pub other : (i : ℕ) → (cell nics i ≡ cell_of g seat → ⊥) → byte (with_seat d f) i ≡ byte d.range i
  pub here : (k : ℕ) → k < slot_count → first_structure + k ≡ g → byte (with_seat d f) (seat_by nics k) ≡ seat_held t k
  pub place : value_place d f ≡ base_by nics g + (field_of (kind_number g) n).at

-- the bytes that the table has as field n of group g, no string
abbrev pub value : List ℕ → ℕ → ℕ → List ℕ
value t g n = part t (source t g + (field_of (kind_number g) n).at) (field_of (kind_number g) n).width

module _ {t marks range strings : List ℕ} (lent : Lent t marks range strings) where
  abbrev nics : ℕ
  nics = nics_of marks

  abbrev targets : ℕ
  targets = targets_of marks

  module _ {g n : ℕ} {d : Draft} (h : g < group_count) (l : n < field_count (kind_number g)) (filled : Filled t marks range strings g n d) where
    abbrev name : FieldName
    name = name_in (record_of t) g n

    module _ (k : ℕ) (hk : k < slot_count) (z : first_structure + k ≡ g) (on : present t k ≡ true) where
      pub kind-is : kind_number g ≡ kind_in k
      kind-is = ap kind_number (sym z) ∙ kind-slot k

      pub slot_is : slot_of d.marks name ≡ k
      slot_is =
          let slot : slot_in g ≡ k = omega arith in
          ap (λ (m : List ℕ). slot_of m name) filled.marks-are
          ∙ lent.seats.slot g n (omega arith) h (rw slot (present-held t k hk ∙ on))
          ∙ slot

      no_header : ltb (kind_number g) first_structure ≡ false
      no_header = le-ltb (kind_number g) first_structure (omega (arith, kind-is, (kind-fits k hk).low))

      index_is : named_count ≤ k → index_held (record_of t) g ≡ byte t (start_of t k + 4)
      unfolding index_held index_in
      index_is low =
          let slot : slot_in g ≡ k = omega arith in
          rw (le-ltb g first_structure (omega arith), slot) (index-held t k hk ∙ rw (le-ltb k named_count low, on))

      seat-slot : with_seat d name ≡ write d.range (seat_by nics k) (seat_held t k ∷ [])
      unfolding with_seat seat_held seat_by seated
      seat-slot =
          rw (no_header, slot_is)
          (elim (dec_lt k named_count) [
            | yes low ↦ rw (lt-ltb k named_count low, on)
            | no low ↦ rw (le-ltb k named_count (omega arith), image-by d.range nics filled.nics-are k, index_is (omega arith))
          ])

      pub place-slot : value_place d name ≡ base_by nics g + (field_of (kind_number g) n).at
      unfolding value_place
      place-slot =
          rw (no_header, slot_is, image-by d.range nics filled.nics-are k)
          (ap (λ (b : ℕ). b + (field_of (kind_number g) n).at) (sym (base-slot nics k) ∙ ap (base_by nics) z))

      pub slot-entered : SeatEntered t nics g n d name
      slot-entered =
          let used = used-present lent k hk on in
          let own = cell-seat nics k hk used.placed ∙ ap (λ (g : ℕ). cell_of g seat) z in
          let ys : List ℕ = seat_held t k ∷ [] in
          let inside : seat_by nics k + 0 < length d.range = omega (arith, seat-inside nics targets k hk used, size-most lent, filled.long) in
          let first : seat_by nics k ≡ seat_by nics k + 0 = omega arith in
          record {
            long = ap length seat-slot ∙ length-write d.range (seat_by nics k) ys;
            other = λ i p.
                ap (λ (r : List ℕ). byte r i) seat-slot
                ∙ cell-keeps nics d.range (seat_by nics k) ys (cell_of g seat) i (λ j few. ap (cell nics) (omega arith) ∙ own) p;
            here = λ k' hk' z'.
                let same : k ≡ k' = omega arith in
                subst (λ (k : ℕ). byte (with_seat d name) (seat_by nics k) ≡ seat_held t k) same
                (ap₂ byte seat-slot first ∙ write-at d.range (seat_by nics k) ys 0 (omega arith) inside);
            place = place-slot;
          }

    seat-entered : holds_group t g ≡ true → SeatEntered t nics g n d name
    unfolding with_seat value_place base_by kind_number
    seat-entered on =
        elim (dec_lt g first_structure) [
          | yes low ↦
              let header : ltb g first_structure ≡ true = lt-ltb g first_structure low in
              let own : with_seat d name ≡ d.range = rw (header, header) in
              record {
                long = ap length own;
                other = λ i p. ap (λ (r : List ℕ). byte r i) own;
                here = λ k hk z. absurd (omega arith);
                place = rw (header, header);
              }
          | no low ↦
              let k : ℕ = g - first_structure in
              let z : first_structure + k ≡ g = omega arith in
              slot-entered k (omega arith) z (sym (holds-slot t k) ∙ ap (holds_group t) z ∙ on)
        ]

    -- a field that is no string
    pub plain-no-string : n < plain_count (kind_number g) → (k m : ℕ) → g ≡ first_structure + k → n ≡ plain_count (kind_in k) + m → ⊥
    plain-no-string plain k m z own = omega (arith, ap plain_count (ap kind_number z ∙ kind-slot k))

    -- .. is given the bytes that the table has
    module _ (on : holds_group t g ≡ true) (plain : n < plain_count (kind_number g)) where
      value-at : (j : ℕ) → j < (field_of (kind_number g) n).width → byte (value t g n) j ≡ byte t (source t g + ((field_of (kind_number g) n).at + j))
      value-at j m = part_at t (source t g + (field_of (kind_number g) n).at) (field_of (kind_number g) n).width j m ∙ ap (byte t) (omega arith)

      pub value-entered : Enters t nics targets g n d (with_value d name (value t g n))
      unfolding with_value
      value-entered = record {
        kept = record {
          marks = refl;
          long = length-write (with_seat d name) (value_place d name) (value t g n) ∙ entered.long;
          room = refl;
          range = λ i p q. cell-keeps nics (with_seat d name) (value_place d name) (value t g n) (cell_of g n) i own p ∙ entered.other i q;
          grows = omega arith;
          strings = λ i p. refl;
        };
        used = omega (arith, filled.used, more-used g n);
        field = record {
          plain = λ _ _ j m.
              ap (byte (write (with_seat d name) (value_place d name) (value t g n))) (omega (arith, entered.place))
              ∙ write-at (with_seat d name) (value_place d name) (value t g n) j (omega (arith, long)) (inside j m)
              ∙ value-at j m;
          string = λ k m hk hm z is. absurd (plain-no-string plain k m z is);
        };
        sits = λ k hk z sits.
            let small = field_below lent h l filled in
            let at = cell-seat nics k hk (used-sits lent k hk sits).placed in
            cell-keeps nics (with_seat d name) (value_place d name) (value t g n) (cell_of g n) (seat_by nics k) own (λ e. omega arith)
            ∙ entered.here k hk z;
      }
        where
          entered : SeatEntered t nics g n d name
          entered = seat-entered on

          used-here : Used nics targets g
          used-here = used-held lent g h on

          long : length (value t g n) ≡ (field_of (kind_number g) n).width
          long = plain-length t lent.accepted g n h on plain

          own : (j : ℕ) → j < length (value t g n) → cell nics (value_place d name + j) ≡ cell_of g n
          own j m = ap (cell nics) (omega (arith, entered.place)) ∙ cell_field nics g n j h used-here.placed l (omega (arith, long))

          inside : (j : ℕ) → j < (field_of (kind_number g) n).width → value_place d name + j < length (with_seat d name)
          inside j m =
              omega (arith, entered.place, entered.long, field-inside nics targets g n h used-here l, size-most lent, filled.long)

      -- a value that is not told is zero, in the table and in the draft
      pub untold : is_told (kind_number g) n (value t g n) ≡ false → Enters t nics targets g n d d
      unfolding is_told is_always
      untold off =
          let zero = or-both (is_text (field_of (kind_number g) n).notation || is_always (field_of (kind_number g) n).notation) _ off in
          let never = (or-both (is_text (field_of (kind_number g) n).notation) _ zero.0).1 in
          let used-here = used-held lent g h on in
          record {
            kept = kept_self nics g n d;
            used = omega (arith, filled.used, more-used g n);
            field = record {
              plain = λ _ _ j m.
                  blank-here lent h l filled n (inl refl) (positive never) (port never) (base_by nics g + ((field_of (kind_number g) n).at + j))
                  (omega (arith, field-inside nics targets g n h used-here l)) (cell_field nics g n j h used-here.placed l m)
                  ∙ sym (zero-at (value t g n) (not-false _ zero.1) j) ∙ value-at j m;
              string = λ k m hk hm z is. absurd (plain-no-string plain k m z is);
            };
            sits = λ k hk z. filled.seated k hk (omega (arith, positive never (omega arith)));
          }
        where
          always : (f : FieldLayout) → field_of (kind_number g) n ≡ f → is_always (field_of (kind_number g) n).notation ≡ is_always f.notation
          always f e = ap (λ (f : FieldLayout). is_always f.notation) e

          positive : is_always (field_of (kind_number g) n).notation ≡ false → first_structure ≤ g → 0 < n
          positive never low =
              elim (dec_lt 0 n) [
                | yes p ↦ p
                | no p ↦
                    let k : ℕ = g - first_structure in
                    let kind : kind_number g ≡ kind_in k = ap kind_number (omega arith) ∙ kind-slot k in
                    clash (always _ (ap₂ field_of kind (omega arith) ∙ flags-field k (omega arith))) never
              ]

          port : is_always (field_of (kind_number g) n).notation ≡ false → kind_number g ≡ target.id → n ≡ 2 → ⊥
          port never q e = clash (always _ (ap₂ field_of q e ∙ port-field)) never
