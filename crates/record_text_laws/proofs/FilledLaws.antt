-- The fields of an accepted table's record are entered group by group, field by field, each into its own cell of the range. So
-- before field n of group g is entered its cell is blank, and once it is entered its bytes are the table's and stay so; strings
-- are written one behind the other, and none is written over.
--     more-used, field_below     entries are counted upwards; no field has its seat's number
--     Enters                     what entering one field does
--     Filled                      what holds of the draft with the fields before field n of group g entered
--     filled-first, filled_next    it holds of the blank draft, and with one field more
--     filled-turn                 and from one group to the next
--     blank-here                 what is not entered yet is zero, where it has no usual value
-- Assumes nothing.
use mathlib.Core.Path.{◌≡◌, refl, sym, ap, ◌∙◌, subst}
use mathlib.Core.Logic.{◌⊎◌, ⊎_elim}
use mathlib.Core.List.{List}
use Prim.Native.Nat.{ℕ, suc, ◌+◌, ◌-◌, ◌*◌, ◌≤◌, ◌<◌}
use native.Mathlib.Decide.{dec_lt}
use native.Mathlib.Omega.{arith}
use lib.ListN.{length}
use Rattle.octets.specs.Counting.{sum_to}
use Rattle.octets.specs.Octets.{byte}
use Rattle.ibft_layout.specs.Layout.{target, slot_count, first_entry}
use Rattle.ibft_build_rules.specs.RecordRange.{nics_at, nics_given, targets_given}
use Rattle.record_text.specs.Fields.{first_structure, field_count, plain_count}
use Rattle.record_text.specs.Enter.{Draft, group_count, blank, blank_draft}
use Rattle.record_text.specs.Tell.{kind_number}
use Rattle.record_text.proofs.FieldFitsLaws.{kind_in, seat, kind-slot, kind-fits, field-few, field_plain}
use Rattle.record_text_laws.proofs.RangePlaceLaws.{size_by}
use Rattle.record_text_laws.proofs.CellLaws.{cell_of, cell, cell-counts}
use Rattle.record_text_laws.proofs.BlankLaws.{nics_of, targets_of, blank-long, blank-nics, blank-targets, blank-zero}
use Rattle.record_text_laws.proofs.LentLaws.{Lent, size-most}
use Rattle.record_text_laws.proofs.KeptLaws.{FieldFilled, SeatFilled, Kept, kept_field, kept-seat}

-- how many entries stand before field n of group g
unfoldable pub entries_to : ℕ → ℕ → ℕ
entries_to g n = first_entry (g - first_structure) + (n - plain_count (kind_number g))

pub more-used : (g n : ℕ) → entries_to g n ≤ entries_to g (suc n)
unfolding entries_to
more-used g n = omega arith

-- what is entered as field n of group g stays in its cell, and is the table's
pub record Enters (t : List ℕ) (nics targets g n : ℕ) (d e : Draft) : Type 0 where
  pub kept : Kept nics g n d e
  pub used : e.used ≤ 255 * entries_to g (suc n)
  pub field : FieldFilled t nics targets g n e
  pub sits : (k : ℕ) → k < slot_count → first_structure + k ≡ g → SeatFilled t nics k e

-- the draft before field n of group g: the cells from there on are blank, those before are filled
pub record Filled (t marks range strings : List ℕ) (g n : ℕ) (d : Draft) : Type 0 where
  pub marks-are : d.marks ≡ marks
  pub long : length d.range ≡ length range
  pub room : length d.strings ≡ length strings
  pub nics-are : nics_given d.range ≡ nics_of marks
  pub targets-are : targets_given d.range ≡ targets_of marks
  pub used : d.used ≤ 255 * entries_to g n
  pub later : (i : ℕ) → cell_of g n ≤ cell (nics_of marks) i → (0 < n → cell (nics_of marks) i ≡ cell_of g seat → ⊥)
      → byte d.range i ≡ byte (blank marks range) i
  pub fields : (g' n' : ℕ) → g' < group_count → n' < field_count (kind_number g') → cell_of g' n' < cell_of g n
      → FieldFilled t (nics_of marks) (targets_of marks) g' n' d
  pub seated : (k : ℕ) → k < slot_count → cell_of (first_structure + k) 0 < cell_of g n → SeatFilled t (nics_of marks) k d

module _ {t marks range strings : List ℕ} (lent : Lent t marks range strings) where
  abbrev nics : ℕ
  nics = nics_of marks

  abbrev targets : ℕ
  targets = targets_of marks

  pub filled-first : Filled t marks range strings 0 0 (blank_draft marks range strings)
  unfolding blank_draft
  filled-first = record {
    marks-are = refl;
    long = blank-long marks range lent.large;
    room = refl;
    nics-are = blank-nics marks range lent.large;
    targets-are = blank-targets marks range lent.large;
    used = omega arith;
    later = λ i l other. refl;
    fields = λ g' n' h l less. absurd (omega arith);
    seated = λ k h less. absurd (omega arith);
  }

  -- ---- one field more

  module _ {g n : ℕ} {d : Draft} (h : g < group_count) (l : n < field_count (kind_number g)) (filled : Filled t marks range strings g n d) where
    pub field_below : n < seat
    field_below = omega (arith, field-few g h)

    pub filled_next : (e : Draft) → Enters t nics targets g n d e → Filled t marks range strings g (suc n) e
    filled_next e step =
        let small = field_below in
        let kept = step.kept in
        let counts : (i : ℕ) → i < 2 → byte e.range (nics_at + i) ≡ byte d.range (nics_at + i) =
        λ i few. let c = cell-counts nics i few in kept.range (nics_at + i) (λ z. omega arith) (λ z. omega arith) in
        record {
          marks-are = kept.marks ∙ filled.marks-are;
          long = kept.long ∙ filled.long;
          room = kept.room ∙ filled.room;
          nics-are = counts 0 (omega arith) ∙ filled.nics-are;
          targets-are = counts 1 (omega arith) ∙ filled.targets-are;
          used = step.used;
          later = λ i low other. kept.range i (λ z. omega arith) (other (omega arith)) ∙ filled.later i (omega arith) (λ p. other (omega arith));
          fields = λ g' n' h' l' less. elim (dec_lt (cell_of g' n') (cell_of g n)) [
            | yes before ↦ kept_field lent g n d e kept g' n' h' l' (λ z. omega arith) (filled.fields g' n' h' l' before)
            | no before ↦
                let small' = field-few g' h' in
                let same : g ≡ g' = omega arith in
                let own : n ≡ n' = omega arith in
                subst (λ (g' : ℕ). FieldFilled t nics targets g' n' e) same (subst (λ (n' : ℕ). FieldFilled t nics targets g n' e) own step.field)
          ];
          seated = λ k hk less. elim (dec_lt (first_structure + k) g) [
            | yes before ↦ kept-seat lent g n d e kept k hk (λ z. omega arith) small (filled.seated k hk (omega arith))
            | no before ↦ step.sits k hk (omega arith)
          ];
        }

    -- ---- what is not entered yet

    -- a byte of its cell, or of its seat, that has no usual value
    pub blank-here : (c : ℕ) → (c ≡ n) ⊎ ((c ≡ seat) × (n ≡ 0)) → (first_structure ≤ g → 0 < c) → (kind_number g ≡ target.id → c ≡ 2 → ⊥)
        → (i : ℕ) → i < size_by nics targets → cell nics i ≡ cell_of g c → byte d.range i ≡ 0
    blank-here c which positive port i inside is =
        let small = field_below in
        let most : c ≤ seat = ⊎_elim (λ e. omega arith) (λ e. omega (arith, e.0)) which in
        filled.later i (⊎_elim (λ e. omega arith) (λ e. omega (arith, e.0, e.1)) which) (λ p z. ⊎_elim (λ e. omega arith) (λ e. omega (arith, e.1)) which)
        ∙ blank-zero marks range lent.large g c h most positive port i (omega (arith, size-most lent)) is

  -- ---- the next group

  turn-used : (g : ℕ) → g < group_count → entries_to g (field_count (kind_number g)) ≤ entries_to (suc g) 0
  unfolding entries_to first_entry sum_to
  turn-used g h =
      elim (dec_lt g first_structure) [
        | yes low ↦
            let first : suc g - first_structure ≡ 0 = omega arith in
            let here : g - first_structure ≡ 0 = omega arith in
            rw (first, here) (omega (arith, field_plain g low))
        | no low ↦
            let k : ℕ = g - first_structure in
            let z : first_structure + k ≡ g = omega arith in
            let kind : kind_number g ≡ kind_in k = ap kind_number (sym z) ∙ kind-slot k in
            let next : suc g - first_structure ≡ suc k = omega arith in
            rw (next, kind) (omega (arith, (kind-fits k (omega arith)).fields))
      ]

  pub filled-turn : (g : ℕ) → g < group_count → (d : Draft) → Filled t marks range strings g (field_count (kind_number g)) d
      → Filled t marks range strings (suc g) 0 d
  filled-turn g h d filled = record {
    marks-are = filled.marks-are;
    long = filled.long;
    room = filled.room;
    nics-are = filled.nics-are;
    targets-are = filled.targets-are;
    used = omega (arith, filled.used, turn-used g h);
    later = λ i low other. filled.later i (omega (arith, field-few g h)) (λ p e. omega arith);
    fields = λ g' n' h' l' less.
        filled.fields g' n' h' l'
        (elim (dec_lt g' g) [
          | yes before ↦ omega (arith, field-few g' h')
          | no before ↦
              let same : g' ≡ g = omega (arith, field-few g' h') in
              omega (arith, ap (λ (g : ℕ). field_count (kind_number g)) same)
        ]);
    seated = λ k hk less.
        filled.seated k hk
        (elim (dec_lt (first_structure + k) g) [
          | yes before ↦ omega arith
          | no before ↦
              let z : g ≡ first_structure + k = omega arith in
              omega (arith, ap field_count (ap kind_number z ∙ kind-slot k), (kind-fits k hk).some, (kind-fits k hk).fields)
        ]);
  }
