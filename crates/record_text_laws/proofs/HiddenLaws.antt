-- Secrets that are hidden: in place of a secret's line stands one that names it, so the text says of a secret only whether it
-- is there.
--     hidden-same             the line of a field, of records that agree but for the bytes of secrets
--     hidden-text-same        .. the whole text
--     hidden-other            a field that is no secret is told as ever
-- Assumes nothing.
use Rattle.std.specs.Prelude.{Option, None, Some}
use mathlib.Core.Path.{◌≡◌, refl, ap, ◌∙◌}
use mathlib.Core.List.{List}
use mathlib.Core.Bool.{Bool, true, false}
use Prim.Native.Nat.{ℕ, ◌<◌}
use native.Mathlib.Omega.{arith}
use Rattle.octets.proofs.CountingLaws.{gather-same}
use Rattle.ibft_table.specs.Record.{Record}
use Rattle.ibft_build_rules.specs.Plan.{is_present}
use Rattle.record_text.specs.Fields.{is_secret, field_count}
use Rattle.record_text.specs.Enter.{group_count}
use Rattle.record_text.specs.Tell.{kind_number, index_held, record_field, line_of, field_line, group_text, record_text}

-- two records that agree on field n of group g but for the bytes of a secret
pub record AgreeAt (r r' : Record) (g n : ℕ) : Type 0 where
  pub index : index_held r g ≡ index_held r' g
  pub secret : is_secret (kind_number g) n ≡ true → is_present (record_field r g n) ≡ is_present (record_field r' g n)
  pub other : is_secret (kind_number g) n ≡ false → record_field r g n ≡ record_field r' g n

-- .. on every field
abbrev pub Agree : Record → Record → Type 0
Agree r r' = (g n : ℕ) → g < group_count → n < field_count (kind_number g) → AgreeAt r r' g n

module _ (kind index n : ℕ) where
  -- the line of a secret says only whether it is there
  secret-line : is_secret kind n ≡ true → (x y : Option (List ℕ)) → is_present x ≡ is_present y → line_of true kind index n x ≡ line_of true kind index n y
  unfolding line_of is_present
  secret-line e None None same = refl
  secret-line e None (Some b) same = absurd (let z : ◌≡◌ {A = ℕ} 0 1 = cc in omega arith)
  secret-line e (Some a) None same = absurd (let z : ◌≡◌ {A = ℕ} 0 1 = cc in omega arith)
  secret-line e (Some a) (Some b) same = rw e

  other-line : is_secret kind n ≡ false → (x : Option (List ℕ)) → line_of true kind index n x ≡ line_of false kind index n x
  unfolding line_of
  other-line e None = refl
  other-line e (Some a) = rw e

module _ (r r' : Record) where
  pub hidden-same : (g n : ℕ) → AgreeAt r r' g n → field_line true r g n ≡ field_line true r' g n
  hidden-same g n agree =
      ap (λ (index : ℕ). line_of true (kind_number g) index n (record_field r g n)) agree.index ∙ go (is_secret (kind_number g) n) refl
    where
      go : (b : Bool) → is_secret (kind_number g) n ≡ b
          → line_of true (kind_number g) (index_held r' g) n (record_field r g n) ≡ line_of true (kind_number g) (index_held r' g) n (record_field r' g n)
      go true e = secret-line (kind_number g) (index_held r' g) n e (record_field r g n) (record_field r' g n) (agree.secret e)
      go false e = ap (line_of true (kind_number g) (index_held r' g) n) (agree.other e)

  pub hidden-text-same : Agree r r' → record_text true r ≡ record_text true r'
  unfolding record_text group_text
  hidden-text-same agree =
      gather-same (group_text true r) (group_text true r') 0 group_count
      (λ g l h. gather-same (λ (n : ℕ). field_line true r g n) (λ (n : ℕ). field_line true r' g n) 0 (field_count (kind_number g))
      (λ n m k. hidden-same g n (agree g n (omega arith) (omega arith))))

pub hidden-other : (r : Record) (g n : ℕ) → is_secret (kind_number g) n ≡ false → field_line true r g n ≡ field_line false r g n
hidden-other r g n e = other-line (kind_number g) (index_held r g) n e (record_field r g n)
