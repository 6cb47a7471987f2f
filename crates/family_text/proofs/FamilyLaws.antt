-- Laws of the family of a line and of a text, shaped like what the functions return.
--     line-nothing, line-named                    the family of a line
--     family-first, family-next                   what is left of the lines, by the first of them
--     stray-first, stray-next                     .. looking for one of another family
--     family-found, family-last, family-more      what is left of a text, by its first line
--     stray-found, stray-last, stray-more         .. looking for one of another family
-- Assumes nothing.
use mathlib.Core.Path.{◌≡◌, refl, sym, ap, ◌∙◌}
use mathlib.Core.List.{List, ◌∷◌}
use mathlib.Core.Bool.{Bool, true, false, not, ◌&&◌, ◌||◌}
use Prim.Native.Nat.{ℕ, ◌+◌, ◌<◌}
use native.Mathlib.Numerals.{add-one}
use native.Mathlib.Omega.{arith}
use borrow.Author.Tests.{eq-eqb, ne_eqb}
use lib.ListN.{length, take, drop}
use lib.Seq.{drop-drop}
use lib.Dec.{eqb}
use Rattle.octets.specs.Octets.{part}
use Rattle.octets.proofs.CountingLaws.{clash}
use Rattle.text.specs.Split.{is, index_of, trim, field_size, field_of as field_text, pieces}
use Rattle.text.proofs.SplitLaws.{pieces-first, pieces-some, pieces_none}
use Rattle.family_text.specs.Fields.{ibft, no_family}
use Rattle.family_text.specs.Family.{says_nothing, family_named, line_family, first_family, stray_from, stray_read}
use Rattle.std.specs.Prelude.{Some}

module _ (line said : List ℕ) (t : Bool) (is : said ≡ trim line) (says : t ≡ says_nothing said) where
  pub line-nothing : t ≡ true → no_family ≡ line_family line
  unfolding line_family
  line-nothing h = rw (← is, ← says, h)

  pub line-named : t ≡ false → (name : List ℕ) → name ≡ part said 0 (field_size said) → (f : ℕ) → f ≡ family_named name → f ≡ line_family line
  unfolding line_family part field_text
  line-named h name named f e = rw (← is, ← says, h, ← named) e

-- what is left of the lines, by the first of them, which has the family f
module _ (l : List ℕ) (ls : List (List ℕ)) (f : ℕ) (of : f ≡ line_family l) where
  pub family-first : (f ≡ no_family → ⊥) → f ≡ first_family (l ∷ ls)
  unfolding first_family
  family-first h = rw (← of, ne_eqb f no_family h)

  pub family-next : f ≡ no_family → first_family ls ≡ first_family (l ∷ ls)
  unfolding first_family
  family-next h = rw (← of, eq-eqb f no_family h)

  module _ (family n : ℕ) where
    pub stray-first : (not (eqb f no_family) && not (eqb f family)) ≡ true → 0 < n
        → Some (record { line = n; family = f }) ≡ stray_read (stray_from family n (l ∷ ls))
    unfolding stray_from
    stray-first h some =
        let off : (eqb f no_family || eqb f family) ≡ false = other (eqb f no_family) (eqb f family) h in
        rw (← of, off, ne_eqb n 0 (omega arith))
      where
        other : (a b : Bool) → (not a && not b) ≡ true → (a || b) ≡ false
        other true b e = clash e refl
        other false true e = clash e refl
        other false false e = refl

    pub stray-next : (not (eqb f no_family) && not (eqb f family)) ≡ false → stray_from family (n + 1) ls ≡ stray_from family n (l ∷ ls)
    unfolding stray_from
    stray-next off = let on : (eqb f no_family || eqb f family) ≡ true = either (eqb f no_family) (eqb f family) off in rw (← of, on, add-one n)
      where
        either : (a b : Bool) → (not a && not b) ≡ false → (a || b) ≡ true
        either true b e = refl
        either false true e = refl
        either false false e = clash refl e

-- what is left of the text from `start` on, whose first line ends before place `size`; f is the family of that line
module _ (text : List ℕ) (start : ℕ) (rest : List ℕ) (left : rest ≡ drop start text) (size : ℕ) (ends : size ≡ index_of 10 rest)
    (f : ℕ) (of : f ≡ line_family (take size rest)) where
  behind : drop (start + (size + 1)) text ≡ drop (size + 1) rest
  behind = sym (ap (drop (size + 1)) left ∙ drop-drop (size + 1) start text)

  pub family-found : (f ≡ no_family → ⊥) → f ≡ first_family (pieces 10 (drop start text))
  unfolding first_family
  family-found h = rw (← left, pieces-first (is 10) rest size ends, ← of, ne_eqb f no_family h)

  pub family-last : f ≡ no_family → size ≡ length rest → ibft ≡ first_family (pieces 10 (drop start text))
  unfolding first_family
  family-last h e = rw (← left, pieces_none (is 10) rest size ends (omega arith), ← of, eq-eqb f no_family h)

  pub family-more : f ≡ no_family → size < length rest → first_family (pieces 10 (drop (start + (size + 1)) text)) ≡ first_family (pieces 10 (drop start text))
  unfolding first_family
  family-more h l = rw (behind, ← left, pieces-some (is 10) rest size ends l, ← of, eq-eqb f no_family h)

  module _ (family n : ℕ) where
    pub stray-found : (not (eqb f no_family) && not (eqb f family)) ≡ true → record { line = n; family = f } ≡ stray_from family n (pieces 10 (drop start text))
    unfolding stray_from
    stray-found h =
        let off : (eqb f no_family || eqb f family) ≡ false = other (eqb f no_family) (eqb f family) h in
        rw (← left, pieces-first (is 10) rest size ends, ← of, off)
      where
        other : (a b : Bool) → (not a && not b) ≡ true → (a || b) ≡ false
        other true b e = clash e refl
        other false true e = clash e refl
        other false false e = refl

    module _ (no : (not (eqb f no_family) && not (eqb f family)) ≡ false) where
      on : (eqb f no_family || eqb f family) ≡ true
      on = either (eqb f no_family) (eqb f family) no
        where
          either : (a b : Bool) → (not a && not b) ≡ false → (a || b) ≡ true
          either true b e = refl
          either false true e = refl
          either false false e = clash refl e

      pub stray-last : size ≡ length rest → record { line = 0; family = 0 } ≡ stray_from family n (pieces 10 (drop start text))
      unfolding stray_from
      stray-last e = rw (← left, pieces_none (is 10) rest size ends (omega arith), ← of, on)

      pub stray-more : size < length rest → stray_from family (n + 1) (pieces 10 (drop (start + (size + 1)) text))
          ≡ stray_from family n (pieces 10 (drop start text))
      unfolding stray_from
      stray-more l = rw (behind, ← left, pieces-some (is 10) rest size ends l, ← of, on, add-one n)
