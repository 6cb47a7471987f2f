-- `target_string` meets its contract, number by number. Assumes nothing.
use mathlib.Core.Path.{◌≡◌, sym, ap}
use Prim.Native.Nat.{ℕ}
use lib.ListN.{get_or-eq_default}
use Rattle.ibft_layout.specs.Layout.{target}
use Rattle.ibft_layout.specs.Shapes.{string_shape}
use Rattle.ibft_layout.proofs.LayoutLaws.{last_arm, target_string}
use Rattle.ibft_layout.proofs.layout.target_string.Goals as goal

-- string m, where n is m
row : (m n : ℕ) → n ≡ m → string_shape (target_string m) ≡ string_shape (target_string n)
row m n e = ap (λ (i : ℕ). string_shape (target_string i)) (sym e)

pub returns-in_default : goal.returns-in_default
returns-in_default c = last_arm (λ (i : ℕ). string_shape (target_string i)) 4 _ c.in_default.in_default-own.rest (λ h. ap string_shape (get_or-eq_default target.string_fields _ h))
