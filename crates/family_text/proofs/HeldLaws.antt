-- What a table that its family's check accepts holds: every field that is told lies in the table, and an OEM field is zero
-- behind its first zero.
--     header-lent, header-id, header-table      of the header
--     Held, held                                of every field
-- Assumes nothing.
use mathlib.Core.Path.{◌≡◌, refl, sym, ap, ◌∙◌}
use mathlib.Core.Bool.{Bool, true, false, cond, not}
use mathlib.Core.List.{List, [], ◌∷◌}
use Prim.Native.Nat.{ℕ, zero, suc, ◌+◌, ◌≤◌, ◌<◌}
use native.Mathlib.Omega.{arith}
use borrow.Author.Tests.{ltb-false, not-true, not-false}
use lib.ListN.{length, get_or}
use lib.Dec.{eqb}
use Rattle.octets.specs.Octets.{part, all_zero}
use Rattle.octets.proofs.CountingLaws.{clash}
use Rattle.scan.specs.Scan.{abft as abft_family, sbft as sbft_family}
use Rattle.table_header.specs.Verdict.{refuse, first_of, Accepted}
use Rattle.table_header.specs.Header.{padded, header_tests}
use Rattle.table_header.proofs.VerdictLaws.{passes, append-passes, accept-cons, accept-none}
use Rattle.abft.specs.Abft.{check_tests as abft_tests, check_of as abft_check}
use Rattle.sbft.specs.Check.{check_tests as sbft_tests, check_of as sbft_check}
use Rattle.sbft.specs.Readings.{part_verdict}
use Rattle.sbft.specs.Layout.{part_of, part_count, offset_of, absent}
use Rattle.sbft.proofs.ReadingLaws.{behind-check, part-within}
use Rattle.family_text.specs.Fields.{sbft, field, abft_fields, sbft_fields, fields_of, field_of}
use Rattle.family_text.specs.Enter.{is_oem}
use Rattle.family_text.specs.Tell.{start_in, is_there, bytes_in, is_told, verdict_of}
use Rattle.family_text.specs.declared.fields.Notation.TheVariants.{Oem}
use Rattle.family_text.specs.declared.fields.FieldLayout.{FieldLayout}

-- ---- the header

module _ (signature least_lent least_length : ℕ) (t : List ℕ) (ok : first_of (header_tests signature least_lent least_length t) ≡ Accepted) where
  pub header-lent : least_lent ≤ length t
  unfolding header_tests
  header-lent = ltb-false (length t) least_lent (passes _ _ ok).0

  header-last : first_of (refuse 8 10 (not (padded (part t 10 6))) ∷ refuse 8 16 (not (padded (part t 16 8))) ∷ []) ≡ Accepted
  unfolding header_tests
  header-last = (passes _ _ (passes _ _ (passes _ _ (passes _ _ (passes _ _ (passes _ _ ok).1).1).1).1).1).1

  pub header-id : padded (part t 10 6) ≡ true
  header-id = not-false _ (passes _ _ header-last).0

  pub header-table : padded (part t 16 8) ≡ true
  header-table = not-false _ (passes _ _ (passes _ _ header-last).1).0

-- ---- a field

pub record Held (t : List ℕ) (f : FieldLayout) : Type 0 where
  -- told, its part is there
  pub there : is_told t f ≡ true → is_there t f.part ≡ true
  -- it lies in the table
  pub inside : is_there t f.part ≡ true → start_in t f.part + f.at + f.width ≤ length t
  -- an OEM field is zero behind its first zero, and where it is not told it is zero
  pub filled : is_oem f.notation ≡ true → padded (bytes_in t f) ≡ true
  pub empty : is_oem f.notation ≡ true → is_told t f ≡ false → all_zero (bytes_in t f) ≡ true

-- every one of them
abbrev Each : (FieldLayout → Type 0) → List FieldLayout → Type 0
Each P [] = Unit
Each P (x ∷ xs) = P x × Each P xs

each-held : (P : FieldLayout → Type 0) (xs : List FieldLayout) (d : FieldLayout) → Each P xs → P d → (n : ℕ) → P (get_or xs n d)
each-held P [] d all last n = last
each-held P (x ∷ xs) d all last zero = all.0
each-held P (x ∷ xs) d all last (suc n) = each-held P xs d all.1 last n

module _ (t : List ℕ) where
  -- an OEM field
  oem-held : (at width : ℕ) → at + width ≤ length t → padded (part t at width) ≡ true → Held t (field Oem 0 at width)
  unfolding is_told is_there start_in bytes_in is_oem
  oem-held at width h pad =
      let place : 0 + at ≡ at = omega arith in
      record {
        there = λ e. refl;
        inside = λ e. omega arith;
        filled = λ e. rw place pad;
        empty = λ e off. not-false _ off;
      }

  module _ (long : 46 ≤ length t) (id : padded (part t 10 6) ≡ true) (table : padded (part t 16 8) ≡ true) where
    first-held : Held t (field Oem 0 10 6)
    first-held = oem-held 10 6 (omega arith) id

    second-held : Held t (field Oem 0 16 8)
    second-held = oem-held 16 8 (omega arith) table

    -- another field of the table's start
    plain-held : (f : FieldLayout) → f.part ≡ 0 → is_oem f.notation ≡ false → f.at + f.width ≤ 46 → Held t f
    unfolding is_told is_there start_in
    plain-held f e plain h =
        let start : start_in t f.part ≡ 0 = ap (start_in t) e in
        record {
          there = λ told. rw plain at told;
          inside = λ is. omega arith;
          filled = λ oem. clash oem plain;
          empty = λ oem off. clash oem plain;
        }

    abft-held : (n : ℕ) → Held t (get_or abft_fields.layout n (field Oem 0 10 6))
    unfolding is_oem
    abft-held =
        each-held (Held t) abft_fields.layout (field Oem 0 10 6)
        (first-held, (second-held, (plain-held _ refl refl (omega arith), (plain-held _ refl refl (omega arith), (plain-held _ refl refl (omega arith), tt)))))
        first-held

    module _ (parts : (k : ℕ) → k < part_count → absent t k ≡ false → offset_of t k + (part_of k).size ≤ length t) where
      -- a field of part k
      part_held : (f : FieldLayout) (k : ℕ) → f.part ≡ suc k → k < part_count → is_oem f.notation ≡ false → f.at + f.width ≤ (part_of k).size → Held t f
      unfolding is_told is_there start_in
      part_held f k e low plain h =
          record {
            there = λ told. rw plain at told;
            inside = λ is.
                let start : start_in t f.part ≡ offset_of t k = ap (start_in t) e in
                omega (arith, start, h, parts k low (not-true _ (sym (ap (is_there t) e) ∙ is)));
            filled = λ oem. clash oem plain;
            empty = λ oem off. clash oem plain;
          }

      sbft-held : (n : ℕ) → Held t (get_or sbft_fields.layout n (field Oem 0 10 6))
      unfolding is_oem part_of
      sbft-held =
          each-held (Held t) sbft_fields.layout (field Oem 0 10 6) (
            first-held,
            (
              second-held,
              (
                part_held _ 0 refl (omega arith) refl (omega arith),
                (
                  part_held _ 1 refl (omega arith) refl (omega arith),
                  (
                    part_held _ 1 refl (omega arith) refl (omega arith),
                    (
                      part_held _ 2 refl (omega arith) refl (omega arith),
                      (
                        part_held _ 2 refl (omega arith) refl (omega arith),
                        (
                          part_held _ 2 refl (omega arith) refl (omega arith),
                          (part_held _ 2 refl (omega arith) refl (omega arith), tt),
                        ),
                      ),
                    ),
                  ),
                ),
              ),
            ),
          )
          first-held

-- ---- both families

abft-accepted : (t : List ℕ) → abft_check t ≡ Accepted → (n : ℕ) → Held t (get_or abft_fields.layout n (field Oem 0 10 6))
unfolding abft_check abft_tests
abft-accepted t ok =
    let header = (append-passes (header_tests abft_family.signature abft_family.least abft_family.least t) _ ok).0 in
    abft-held t (header-lent _ 46 46 t header) (header-id _ 46 46 t header) (header-table _ 46 46 t header)

sbft-accepted : (t : List ℕ) → sbft_check t ≡ Accepted → (n : ℕ) → Held t (get_or sbft_fields.layout n (field Oem 0 10 6))
unfolding sbft_check sbft_tests part_verdict
sbft-accepted t ok =
    let header = (append-passes (header_tests sbft_family.signature sbft_family.least sbft_family.least t) _ ok).0 in
    sbft-held t (omega (arith, header-lent _ 48 48 t header)) (header-id _ 48 48 t header) (header-table _ 48 48 t header)
    (λ k low there. part-within t k (behind-check t _ ok ∙ accept-cons _ _ there accept-none) low)

pub held : (family : ℕ) (t : List ℕ) → verdict_of family t ≡ Accepted → (n : ℕ) → Held t (field_of family n)
unfolding verdict_of field_of fields_of
held family t ok n = go (eqb family sbft) ok
  where
    go : (b : Bool) → cond b (sbft_check t) (abft_check t) ≡ Accepted → Held t (get_or (cond b sbft_fields abft_fields).layout n (field Oem 0 10 6))
    go true e = sbft-accepted t e n
    go false e = abft-accepted t e n
