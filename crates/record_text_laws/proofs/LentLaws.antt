-- What is entered, and where: the record of an accepted table, with marks that seat its structures, into a range and strings
-- that are large enough for every record. The extras that the marks count are then the table's.
--     nics-held, targets-held, size-most          the numbers of extras, and the size of the range
--     used-present, used-held, used-sits          the groups in use
-- Assumes nothing.
use Rattle.std.specs.Prelude.{None}
use mathlib.Core.Path.{◌≡◌, sym, ap, ◌∙◌, subst}
use mathlib.Core.Bool.{true}
use mathlib.Core.List.{List}
use Prim.Native.Nat.{ℕ, ◌+◌, ◌-◌, ◌*◌, ◌≤◌, ◌<◌}
use native.Mathlib.Decide.{dec_lt}
use native.Mathlib.Omega.{arith}
use borrow.Author.Tests.{ltb-true}
use lib.ListN.{length, get_or}
use Rattle.octets.proofs.CountLaws.{count_same}
use Rattle.ibft_layout.specs.Layout.{slot_count, entry_count, named_count, extra_most, extra_nics, extra_targets}
use Rattle.ibft_table.specs.Table.{starts_of, nics_in, present}
use Rattle.ibft_table.specs.Check.{check_of}
use Rattle.ibft_table.specs.Record.{record_of}
use Rattle.table_header.specs.Verdict.{Accepted}
use Rattle.ibft_table_laws.proofs.TableLaws.{facts}
use Rattle.ibft_table_laws.proofs.NumberingLaws.{nics-most, nics-are, targets-most, targets-are}
use Rattle.ibft_build_rules.specs.RecordRange.{largest_size, nic_image}
use Rattle.ibft_build_rules.specs.Rebuild.{targets_in}
use Rattle.ibft_build_rules.specs.Plan.{is_present}
use Rattle.record_text.specs.Fields.{first_structure}
use Rattle.record_text.specs.Enter.{group_count}
use Rattle.record_text_laws.proofs.Entered.{Seats}
use Rattle.record_text_laws.proofs.RangePlaceLaws.{Used, used-named, size_by}
use Rattle.record_text_laws.proofs.BlankLaws.{nics_of, targets_of}
use Rattle.record_text.proofs.HeldLaws.{holds_group, holds-slot, present-held}

pub record Lent (t marks range strings : List ℕ) : Type 0 where
  pub accepted : check_of t ≡ Accepted
  pub seats : Seats marks (record_of t)
  pub large : largest_size ≤ length range
  pub roomy : 255 * entry_count ≤ length strings

module _ {t marks range strings : List ℕ} (lent : Lent t marks range strings) where
  abbrev nics : ℕ
  nics = nics_of marks

  abbrev targets : ℕ
  targets = targets_of marks

  pub nics-held : nics ≡ nics_in (starts_of t)
  unfolding nics_in
  nics-held =
      lent.seats.nics
      ∙ count_same extra_most (λ (i : ℕ). is_present (get_or (record_of t).structures (extra_nics + i) None)) (λ (i : ℕ). present t (extra_nics + i))
      (λ i h. present-held t (extra_nics + i) (omega arith))

  pub targets-held : targets ≡ targets_in (starts_of t)
  unfolding targets_in
  targets-held =
      lent.seats.targets
      ∙ count_same extra_most (λ (i : ℕ). is_present (get_or (record_of t).structures (extra_targets + i) None)) (λ (i : ℕ). present t (extra_targets + i))
      (λ i h. present-held t (extra_targets + i) (omega arith))

  pub size-most : size_by nics targets ≤ largest_size
  unfolding size_by nic_image targets_in
  size-most = omega (arith, nics-held, nics-most t (facts t lent.accepted), targets-held, targets-most t (facts t lent.accepted))

  -- a structure that is present is in use
  pub used-present : (k : ℕ) → k < slot_count → present t k ≡ true → Used nics targets (first_structure + k)
  unfolding targets_in
  used-present k h on = record {
    placed = λ l. elim (dec_lt k extra_nics) [
      | yes m ↦ omega arith
      | no m ↦
          let z : extra_nics + (k - extra_nics) ≡ k = omega arith in
          let is = nics-are t (facts t lent.accepted) (k - extra_nics) (omega arith) in
          omega (arith, nics-held, ltb-true (k - extra_nics) (nics_in (starts_of t)) (sym is ∙ ap (present t) z ∙ on))
    ];
    below = λ l.
        let z : extra_targets + (k - extra_targets) ≡ k = omega arith in
        let is = targets-are t (facts t lent.accepted) (k - extra_targets) (omega arith) in
        omega (arith, targets-held, ltb-true (k - extra_targets) (targets_in (starts_of t)) (sym is ∙ ap (present t) z ∙ on));
  }

  pub used-held : (g : ℕ) → g < group_count → holds_group t g ≡ true → Used nics targets g
  used-held g h on =
      elim (dec_lt g first_structure) [
        | yes l ↦ used-named nics targets g (omega arith)
        | no l ↦
            let k : ℕ = g - first_structure in
            let z : first_structure + k ≡ g = omega arith in
            subst (Used nics targets) z (used-present k (omega arith) (sym (holds-slot t k) ∙ ap (holds_group t) z ∙ on))
      ]

  -- a slot that is named or has an extra
  pub used-sits : (k : ℕ) → k < slot_count → (named_count ≤ k → present t k ≡ true) → Used nics targets (first_structure + k)
  used-sits k h sits =
      elim (dec_lt k named_count) [
        | yes l ↦ used-named nics targets (first_structure + k) (omega arith)
        | no l ↦ used-present k h (sits (omega arith))
      ]
