-- A packed answer gives its parts back where number and place keep to their bits. Assumes nothing.
use mathlib.Core.Path.{◌≡◌, ap, ◌∙◌}
use Prim.Native.Nat.{ℕ, ◌+◌, ◌*◌, ◌/◌, ◌%◌, ◌<◌, ◌^◌}
use native.Mathlib.Nat.{add-mul-mod_self_left, mod-eq_of_lt}
use native.Mathlib.Omega.{arith}
use Rattle.bootfw.specs.Pack.{pack, Packs}

pub packs : (number place upper r : ℕ) → number < 2 ^ 8 → place < 2 ^ 24 → r ≡ number + 256 * place + 4294967296 * upper
    → Packs number place upper r
unfolding pack
packs number place upper r n p e =
    let above : r / 256 ≡ place + 16777216 * upper = omega arith in
    record {
      packed = e;
      number-back = omega arith;
      place-back = ap (λ (x : ℕ). x % 16777216) above ∙ add-mul-mod_self_left place 16777216 upper ∙ mod-eq_of_lt p;
      upper-back = omega arith;
    }
