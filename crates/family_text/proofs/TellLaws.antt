-- Laws of the text of a table, shaped like what its functions return.
--     zero-step, zero-end                        whether all bytes are zero, by the byte at a place
--     start_first, start-part, there-first, there-part     where a part starts, and whether it is there
--     told-oem, told_part                        whether a field is told
--     line-untold, line-told, gather-more        the line of a field, and one line more
--     verdict-sbft, verdict-abft, text-accepted, text-refused     the text of a table
-- Assumes nothing.
use mathlib.Core.Path.{◌≡◌, refl, sym, ap, ◌∙◌}
use mathlib.Core.Bool.{Bool, true, false, not, ◌&&◌}
use mathlib.Core.List.{List, [], ◌++◌}
use Prim.Native.Nat.{ℕ, zero, suc, ◌+◌, ◌-◌, ◌≤◌, ◌<◌}
use native.Mathlib.Numerals.{add-one}
use native.Mathlib.Omega.{arith}
use borrow.Author.Tests.{eq-eqb, ne_eqb}
use lib.ListN.{length, drop, drop_of_length-le}
use lib.Seq.{drop-cons}
use lib.Dec.{eqb}
use Rattle.octets.specs.Counting.{gather}
use Rattle.octets.specs.Octets.{byte, all_zero}
use Rattle.octets.proofs.CountingLaws.{gather-last}
use Rattle.table_header.specs.Verdict.{shown, Verdict, Accepted, Refused}
use Rattle.table_header.specs.declared.verdict.Refusal.{Refusal}
use Rattle.abft.specs.Abft.{check_of as abft_check}
use Rattle.sbft.specs.Check.{check_of as sbft_check}
use Rattle.sbft.specs.Layout.{offset_of, absent}
use Rattle.family_text.specs.Fields.{sbft, field_of}
use Rattle.family_text.specs.Enter.{is_oem}
use Rattle.family_text.specs.Tell.{start_in, is_there, bytes_in, is_told, line_with, line_of, lines_text, verdict_of, table_text}
use Rattle.family_text.specs.declared.fields.FieldLayout.{FieldLayout}

-- ---- bytes that are zero

pub zero-step : (t : List ℕ) (i : ℕ) → i < length t → all_zero (drop i t) ≡ (eqb (byte t i) 0 && all_zero (drop (i + 1) t))
unfolding all_zero
zero-step t i h = rw (drop-cons t i 0, add-one)

pub zero-end : (t : List ℕ) (i : ℕ) → length t ≤ i → all_zero (drop i t) ≡ true
unfolding all_zero
zero-end t i h = rw drop_of_length-le

-- ---- parts

module _ (t : List ℕ) where
  pub start_first : (part : ℕ) → part ≡ 0 → 0 ≡ start_in t part
  unfolding start_in
  start_first part h = ap (start_in t) (sym h)

  pub start-part : (part : ℕ) → (part ≡ 0 → ⊥) → offset_of t (part - 1) ≡ start_in t part
  unfolding start_in
  start-part zero h = absurd (h refl)
  start-part (suc k) h = ap (offset_of t) (omega arith)

  pub there-first : (part : ℕ) → part ≡ 0 → true ≡ is_there t part
  unfolding is_there
  there-first part h = ap (is_there t) (sym h)

  pub there-part : (part : ℕ) → (part ≡ 0 → ⊥) → (a : Bool) → a ≡ absent t (part - 1) → not a ≡ is_there t part
  unfolding is_there
  there-part zero h a e = absurd (h refl)
  there-part (suc k) h a e = ap not (e ∙ ap (absent t) (omega arith))

  -- ---- a line

  module _ (f : FieldLayout) (o : Bool) (oem : o ≡ is_oem f.notation) where
    pub told-oem : o ≡ true → (bytes : List ℕ) (z : Bool) → bytes ≡ bytes_in t f → z ≡ all_zero bytes → not z ≡ is_told t f
    unfolding is_told
    told-oem h bytes z eb ez = rw (← oem, h, ez, eb)

    pub told_part : o ≡ false → (b : Bool) → b ≡ is_there t f.part → b ≡ is_told t f
    unfolding is_told
    told_part h b e = rw (← oem, h) e

  module _ (family n : ℕ) (f : FieldLayout) (is : f ≡ field_of family n) (told : Bool) (tells : told ≡ is_told t f) where
    pub line-untold : told ≡ false → [] ≡ line_of family t n
    unfolding line_of
    line-untold h = rw (← is, ← tells, h)

    pub line-told : told ≡ true → line_with family n f (bytes_in t f) ≡ line_of family t n
    unfolding line_of
    line-told h = rw (← is, ← tells, h)

pub gather-more : (f : ℕ → List ℕ) (n : ℕ) → gather f 0 n ++ f n ≡ gather f 0 (n + 1)
gather-more f n = rw (add-one n) (sym (gather-last f 0 n ∙ ap (λ (k : ℕ). gather f 0 n ++ f k) (omega arith)))

-- ---- the text

module _ (family : ℕ) (t : List ℕ) where
  pub verdict-sbft : family ≡ sbft → sbft_check t ≡ verdict_of family t
  unfolding verdict_of
  verdict-sbft h = rw (eq-eqb family sbft h)

  pub verdict-abft : (family ≡ sbft → ⊥) → abft_check t ≡ verdict_of family t
  unfolding verdict_of
  verdict-abft h = rw (ne_eqb family sbft h)

  module _ (v : Verdict) (checked : v ≡ verdict_of family t) where
    pub text-accepted : v ≡ Accepted → lines_text family t ≡ table_text family t
    unfolding table_text shown
    text-accepted h = rw (← checked, h)

    pub text-refused : (r : Refusal) → v ≡ Refused r → [] ≡ table_text family t
    unfolding table_text shown
    text-refused r h = rw (← checked, h)
