-- The text of a table is of the table's family: every line that is told is of it or of none, and the third field is always
-- told.
--     own_family, name-family     the family of a field's name
--     family-told                the text's family
--     none-stray                 no line is of another
-- Assumes nothing.
use mathlib.Core.Path.{◌≡◌, refl, ap, ◌∙◌}
use mathlib.Core.List.{List, ◌∷◌, ◌++◌}
use mathlib.Core.Bool.{Bool, true, false, cond, not, ◌||◌}
use Prim.Native.Nat.{ℕ, zero, suc, ◌+◌, ◌≤◌, ◌<◌}
use native.Mathlib.Decide.{dec_lt}
use native.Mathlib.Omega.{arith}
use borrow.Author.Tests.{eqb-true, eq-eqb, lt-ltb, le-ltb}
use lib.ListN.{length}
use lib.Dec.{eqb, ltb}
use Rattle.octets.specs.Counting.{first, any, gather}
use Rattle.octets.proofs.CountingLaws.{each_holds}
use Rattle.text.specs.Split.{before, trim_end, trim, pieces_by, pieces}
use Rattle.text.specs.Words.{word_at}
use Rattle.text.specs.Computing.{computing as of-text}
use Rattle.family_text.specs.Fields.{abft, sbft, no_family, Fields, abft_fields, sbft_fields, fields_of, field_count, field_of, name_of}
use Rattle.family_text.specs.Family.{says_nothing, begins, is_ibft, family_named, line_family, first_family, stray_from}
use Rattle.family_text.specs.Tell.{bytes_in, is_told, line_of}
use Rattle.family_text.proofs.LineBackLaws.{line, told_with, told_line, told-family}
use Rattle.family_text.proofs.EnteredLaws.{line-apart}

-- the family whose fields these are
unfoldable pub own_family : ℕ → ℕ
own_family family = cond (eqb family sbft) sbft abft

-- the OEM fields are of none
abbrev family_at : ℕ → ℕ → ℕ
family_at own n = cond (ltb n 2) no_family own

named_at : ℕ → Fields → ℕ → Bool
named_at own fields n = eqb (family_named (word_at fields.names n)) (family_at own n)

abft-named : any 5 (λ (n : ℕ). not (named_at abft abft_fields n)) ≡ false
unfolding of-text any first named_at family_named begins is_ibft
abft-named = refl

sbft-named : any 9 (λ (n : ℕ). not (named_at sbft sbft_fields n)) ≡ false
unfolding of-text any first named_at family_named begins is_ibft
sbft-named = refl

pub name-family : (family n : ℕ) → n < field_count family → family_named (name_of family n) ≡ family_at (own_family family) n
unfolding field_count fields_of name_of own_family named_at
name-family family n h = go (eqb family sbft) h
  where
    go : (b : Bool) → n < length (cond b sbft_fields abft_fields).layout
        → family_named (word_at (cond b sbft_fields abft_fields).names n) ≡ family_at (cond b sbft abft) n
    go true l = eqb-true _ (family_at sbft n) (each_holds 9 (named_at sbft sbft_fields) sbft-named n l)
    go false l = eqb-true _ (family_at abft n) (each_holds 5 (named_at abft abft_fields) abft-named n l)

own-some : (family : ℕ) → eqb (own_family family) no_family ≡ false
unfolding own_family
own-some family = go (eqb family sbft)
  where
    go : (b : Bool) → eqb (cond b sbft abft) no_family ≡ false
    go true = refl
    go false = refl

module _ (family : ℕ) (t : List ℕ) where
  abbrev own : ℕ
  own = own_family family

  -- ---- a line

  module _ (i : ℕ) (low : i < field_count family) (rest : List ℕ) where
    abbrev here : List ℕ
    here = line family i low (bytes_in t (field_of family i))

    line-of : line_family here ≡ family_at own i
    line-of = told-family family i low (bytes_in t (field_of family i)) ∙ name-family family i low

    line-told : is_told t (field_of family i) ≡ true → pieces 10 (line_of family t i ++ rest) ≡ here ∷ pieces 10 rest
    unfolding line_of
    line-told told =
        let bytes = bytes_in t (field_of family i) in
        rw (told, told_with family i low bytes, line-apart here rest (told_line family i low bytes))

    line-untold : is_told t (field_of family i) ≡ false → pieces 10 (line_of family t i ++ rest) ≡ pieces 10 rest
    unfolding line_of
    line-untold off = rw off

    -- one that is told is of the family, or an OEM field, which is of none
    first-own : is_told t (field_of family i) ≡ true → 2 ≤ i → first_family (pieces 10 (line_of family t i ++ rest)) ≡ own
    unfolding first_family
    first-own told h = rw (line-told told, line-of, le-ltb i 2 h, own-some family)

    first-oem : is_told t (field_of family i) ≡ true → i < 2 → first_family (pieces 10 (line_of family t i ++ rest)) ≡ first_family (pieces 10 rest)
    unfolding first_family
    first-oem told h = rw (line-told told, line-of, lt-ltb i 2 h)

    stray-next : is_told t (field_of family i) ≡ true → (l : ℕ)
        → stray_from own l (pieces 10 (line_of family t i ++ rest)) ≡ stray_from own (suc l) (pieces 10 rest)
    unfolding stray_from
    stray-next told l = rw (line-told told, line-of) (go (ltb i 2))
      where
        go : (b : Bool) → cond (eqb (cond b no_family own) no_family || eqb (cond b no_family own) own)
            (stray_from own (suc l) (pieces 10 rest)) (record { line = l; family = cond b no_family own })
            ≡ stray_from own (suc l) (pieces 10 rest)
        go true = refl
        go false = rw (own-some family, eq-eqb own own refl)

  -- ---- the lines from field i on

  pub family-told : (i m : ℕ) → i + m ≡ field_count family → i ≤ 2 → 2 < i + m → is_told t (field_of family 2) ≡ true
      → first_family (pieces 10 (gather (line_of family t) i m)) ≡ own
  unfolding gather
  family-told i zero e a b third = absurd (omega arith)
  family-told i (suc m) e a b third =
      elim (dec_lt i 2) [
        | yes h ↦
            let low : i < field_count family = omega arith in
            let rest = gather (line_of family t) (suc i) m in
            by (is_told t (field_of family i)) refl (first-oem i low rest) (line-untold i low rest) h
            ∙ family-told (suc i) m (omega arith) (omega arith) (omega arith) third
        | no h ↦
            let same : i ≡ 2 = omega arith in
            first-own i (omega arith) (gather (line_of family t) (suc i) m) (ap (λ (n : ℕ). is_told t (field_of family n)) same ∙ third) (omega arith)
      ]
    where
      by : (b : Bool) → is_told t (field_of family i) ≡ b
          → (is_told t (field_of family i) ≡ true → i < 2
          → first_family (pieces 10 (line_of family t i ++ gather (line_of family t) (suc i) m)) ≡ first_family (pieces 10 (gather (line_of family t) (suc i) m)))
          → (is_told t (field_of family i) ≡ false
          → pieces 10 (line_of family t i ++ gather (line_of family t) (suc i) m) ≡ pieces 10 (gather (line_of family t) (suc i) m)) → i < 2
          → first_family (pieces 10 (line_of family t i ++ gather (line_of family t) (suc i) m)) ≡ first_family (pieces 10 (gather (line_of family t) (suc i) m))
      by true told one none h = one told h
      by false off one none h = ap first_family (none off)

  pub none-stray : (l i m : ℕ) → i + m ≡ field_count family → stray_from own l (pieces 10 (gather (line_of family t) i m)) ≡ record { line = 0; family = 0 }
  unfolding gather stray_from line_family says_nothing pieces_by trim trim_end before
  none-stray l i zero e = refl
  none-stray l i (suc m) e =
      let low : i < field_count family = omega arith in
      let rest = gather (line_of family t) (suc i) m in
      by (is_told t (field_of family i)) refl (λ told. stray-next i low rest told l ∙ none-stray (suc l) (suc i) m (omega arith))
      (λ off. ap (stray_from own l) (line-untold i low rest off) ∙ none-stray l (suc i) m (omega arith))
    where
      by : {X : Type 0} (b : Bool) → is_told t (field_of family i) ≡ b → (is_told t (field_of family i) ≡ true → X) → (is_told t (field_of family i) ≡ false → X) → X
      by true told one none = one told
      by false off one none = none off
