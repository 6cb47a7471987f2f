-- Laws of the fields' data, for code that knows them family by family.
--     row                          a value by number, where the number is known
--     none_below                   a number that is none of the first k
--     fields-sbft, fields-abft     the fields of a family, by the test of the code
--     each_at, field-each          what holds of every field of both families
--     count-few                    a family has at most nine fields
-- Assumes nothing.
use mathlib.Core.Path.{◌≡◌, sym, ap, ◌∙◌}
use mathlib.Core.Bool.{Bool, true, false, cond}
use mathlib.Core.List.{List, [], ◌∷◌}
use Prim.Native.Nat.{ℕ, zero, suc, ◌≤◌}
use native.Mathlib.Omega.{arith}
use borrow.Author.Tests.{eq-eqb, ne_eqb}
use lib.ListN.{length, get_or}
use lib.Dec.{eqb}
use Rattle.octets.proofs.TestLaws.{and_both}
use Rattle.text.specs.Split.{each}
use Rattle.family_text.specs.Fields.{sbft, field, abft_fields, sbft_fields, fields_of, field_count, field_of}
use Rattle.family_text.specs.declared.fields.Notation.TheVariants.{Oem}
use Rattle.family_text.specs.declared.fields.FieldLayout.{FieldLayout}

pub row {ℓ} : {A : Type ℓ} (f : ℕ → A) (m n : ℕ) (r : A) → r ≡ f m → n ≡ m → r ≡ f n
row f m n r e k = e ∙ ap f (sym k)

-- n is none of the numbers below k, as the last arm of a `match` has it
abbrev NoneBelow : ℕ → ℕ → Type 0
NoneBelow n zero = Unit
NoneBelow n (suc k) = NoneBelow n k × (n ≡ k → ⊥)

pub none_below : (n k : ℕ) → NoneBelow n k → k ≤ n
none_below n zero none = omega arith
none_below n (suc k) none = omega (arith, none_below n k none.0, none.1)

pub fields-sbft : (family : ℕ) → family ≡ sbft → fields_of family ≡ sbft_fields
unfolding fields_of
fields-sbft family h = rw (eq-eqb family sbft h)

pub fields-abft : (family : ℕ) → (family ≡ sbft → ⊥) → fields_of family ≡ abft_fields
unfolding fields_of
fields-abft family h = rw (ne_eqb family sbft h)

-- ---- what holds of every field

pub each_at {ℓ} : {A : Type ℓ} (p : A → Bool) (xs : List A) (n : ℕ) (d : A) → each p xs ≡ true → p d ≡ true → p (get_or xs n d) ≡ true
unfolding each
each_at p [] n d all last = last
each_at p (x ∷ xs) zero d all last = (and_both (p x) (each p xs) all).0
each_at p (x ∷ xs) (suc n) d all last = each_at p xs n d (and_both (p x) (each p xs) all).1 last

pub field-each : (p : FieldLayout → Bool) → each p abft_fields.layout ≡ true → each p sbft_fields.layout ≡ true → p (field Oem 0 10 6) ≡ true
    → (family n : ℕ) → p (field_of family n) ≡ true
unfolding field_of fields_of
field-each p a s first family n = go (eqb family sbft)
  where
    go : (b : Bool) → p (get_or (cond b sbft_fields abft_fields).layout n (field Oem 0 10 6)) ≡ true
    go true = each_at p sbft_fields.layout n (field Oem 0 10 6) s first
    go false = each_at p abft_fields.layout n (field Oem 0 10 6) a first

pub count-few : (family : ℕ) → field_count family ≤ 9
unfolding field_count fields_of
count-few family = go (eqb family sbft)
  where
    go : (b : Bool) → length (cond b sbft_fields abft_fields).layout ≤ 9
    go true = omega arith
    go false = omega arith
