-- Field by field, group by group: each field of the record is entered as the table has it, so that at last all of them are
-- filled.
--     filled-step                     one field
--     filled-fields, filled-groups     the fields of a group, all groups
-- Assumes nothing.
use Rattle.std.specs.Prelude.{None}
use mathlib.Core.Path.{◌≡◌, refl, sym, ap, ap₂, ◌∙◌}
use mathlib.Core.Bool.{Bool, true, false, cond, ◌||◌}
use mathlib.Core.List.{List}
use Prim.Native.Nat.{ℕ, zero, suc, ◌+◌, ◌-◌, ◌≤◌, ◌<◌}
use native.Mathlib.Decide.{dec_lt}
use native.Mathlib.Omega.{arith}
use borrow.Author.Tests.{lt-ltb, le-leb, lt-leb}
use Rattle.octets.specs.Octets.{part}
use Rattle.octets.proofs.CountingLaws.{clash}
use Rattle.ibft_layout.specs.Layout.{slot_count, first_entry}
use Rattle.ibft_table.specs.Table.{present, size_of, offset_of, holds_entry}
use Rattle.ibft_table.specs.Record.{shown_if, record_of}
use Rattle.record_text.specs.Fields.{first_structure, is_text, field_count, plain_count, field_of}
use Rattle.record_text.specs.Enter.{Draft, group_count, blank_draft, with_value}
use Rattle.record_text.specs.Tell.{kind_number, record_field, is_told}
use Rattle.record_text.specs.declared.fields.FieldName.{FieldName}
use Rattle.record_text_laws.proofs.Entered.{name_in, valued, fields_entered, groups_entered}
use Rattle.record_text.proofs.FieldFitsLaws.{kind_in, strings_in, kind-slot, kind-few, kind-fits, field_plain, field-text}
use Rattle.record_text_laws.proofs.BlankLaws.{nics_of, targets_of}
use Rattle.record_text.proofs.HeldLaws.{holds_group, holds-slot, string-field, absent-field, plain-field}
use Rattle.record_text_laws.proofs.LentLaws.{Lent}
use Rattle.record_text_laws.proofs.FilledLaws.{Filled, Enters, filled-first, filled_next, filled-turn}
use Rattle.record_text_laws.proofs.ValueEnteredLaws.{value, value-entered, untold}
use Rattle.record_text_laws.proofs.StringEnteredLaws.{string-entered, missing-entered, absent-entered}

module _ {t marks range strings : List ℕ} (lent : Lent t marks range strings) where
  abbrev nics : ℕ
  nics = nics_of marks

  abbrev targets : ℕ
  targets = targets_of marks

  module _ {g n : ℕ} {d : Draft} (h : g < group_count) (l : n < field_count (kind_number g)) (filled : Filled t marks range strings g n d) where
    abbrev name : FieldName
    name = name_in (record_of t) g n

    -- ---- the field of the record

    plain-step : n < plain_count (kind_number g) → Enters t nics targets g n d (valued d name (record_field (record_of t) g n))
    unfolding valued
    plain-step plain = go (holds_group t g) refl
      where
        told : (on : holds_group t g ≡ true) (b : Bool) → is_told (kind_number g) n (value t g n) ≡ b
            → Enters t nics targets g n d (cond b (with_value d name (value t g n)) d)
        told on true e = value-entered lent h l filled on plain
        told on false e = untold lent h l filled on plain e

        go : (b : Bool) → holds_group t g ≡ b → Enters t nics targets g n d (valued d name (record_field (record_of t) g n))
        go true on =
            let text : is_text (field_of (kind_number g) n).notation ≡ false =
            field-text (kind_number g) n (kind-few g h) l ∙ lt-leb (plain_count (kind_number g)) n plain in
            rw (plain-field t lent.accepted g n h on plain, text) (told on (is_told (kind_number g) n (value t g n)) refl)
        go false off =
            elim (dec_lt g first_structure) [
              | yes low ↦ clash (ap (λ (b : Bool). b || present t (g - first_structure)) (lt-ltb g first_structure low)) off
              | no low ↦
                  let k : ℕ = g - first_structure in
                  let hk : k < slot_count = omega arith in
                  let z : first_structure + k ≡ g = omega arith in
                  let away : present t k ≡ false = sym (holds-slot t k) ∙ ap (holds_group t) z ∙ off in
                  let below : n < field_count (kind_in k) = omega (arith, ap (λ (g : ℕ). field_count (kind_number g)) z, ap field_count (kind-slot k)) in
                  let nothing : record_field (record_of t) g n ≡ None = ap (λ (g : ℕ). record_field (record_of t) g n) (sym z) ∙ absent-field t k hk n below away in
                  rw nothing (absent-entered lent h l filled k hk z away)
            ]

    string-step : (k m : ℕ) → k < slot_count → m < strings_in k → first_structure + k ≡ g → n ≡ plain_count (kind_in k) + m
        → Enters t nics targets g n d (valued d name (record_field (record_of t) g n))
    unfolding valued is_told
    string-step k m hk hm z is = go (holds_entry t (first_entry k + m)) refl
      where
        text : is_text (field_of (kind_number g) n).notation ≡ true
        text =
            field-text (kind_number g) n (kind-few g h) l
            ∙ le-leb (plain_count (kind_number g)) n (omega (arith, ap (λ (g : ℕ). plain_count (kind_number g)) z, ap plain_count (kind-slot k)))

        field : record_field (record_of t) g n
            ≡ shown_if (holds_entry t (first_entry k + m)) (part t (offset_of t (first_entry k + m)) (size_of t (first_entry k + m)))
        field = ap₂ (λ (g n : ℕ). record_field (record_of t) g n) (sym z) is ∙ string-field t k hk m hm

        go : (b : Bool) → holds_entry t (first_entry k + m) ≡ b → Enters t nics targets g n d (valued d name (record_field (record_of t) g n))
        go true on = rw (field, on, text) (string-entered lent h l filled k m hk hm z is on)
        go false off = rw (field, off) (missing-entered lent h l filled k m hk hm z is off)

    filled-step : Filled t marks range strings g (suc n) (valued d name (record_field (record_of t) g n))
    filled-step =
        filled_next lent h l filled (valued d name (record_field (record_of t) g n))
        (elim (dec_lt n (plain_count (kind_number g))) [
          | yes plain ↦ plain-step plain
          | no plain ↦ elim (dec_lt g first_structure) [
            | yes low ↦ absurd (omega (arith, field_plain g low))
            | no low ↦
                let k : ℕ = g - first_structure in
                let hk : k < slot_count = omega arith in
                let z : first_structure + k ≡ g = omega arith in
                let kind : kind_number g ≡ kind_in k = ap kind_number (sym z) ∙ kind-slot k in
                let fields = (kind-fits k hk).fields in
                string-step k (n - plain_count (kind_in k)) hk (omega (arith, ap plain_count kind, ap field_count kind)) z (omega (arith, ap plain_count kind))
          ]
        ])

  -- ---- all of them

  filled-fields : (g : ℕ) → g < group_count → (d : Draft) → Filled t marks range strings g 0 d → (n : ℕ) → n ≤ field_count (kind_number g)
      → Filled t marks range strings g n (fields_entered (record_of t) g n d)
  unfolding fields_entered
  filled-fields g h d filled zero l = filled
  filled-fields g h d filled (suc n) l = filled-step h (omega arith) (filled-fields g h d filled n (omega arith))

  pub filled-groups : (g : ℕ) → g ≤ group_count → Filled t marks range strings g 0 (groups_entered (record_of t) g (blank_draft marks range strings))
  unfolding groups_entered
  filled-groups zero h = filled-first lent
  filled-groups (suc g) h =
      let before = groups_entered (record_of t) g (blank_draft marks range strings) in
      filled-turn lent g (omega arith) (fields_entered (record_of t) g (field_count (kind_number g)) before)
      (filled-fields g (omega arith) before (filled-groups g (omega arith)) (field_count (kind_number g)) (omega arith))
