-- Laws of the layout's data.
--     part-last      from number 2 on stands the IB part
--     word-place     the parts' offsets stand one behind the other
-- Assumes nothing.
use mathlib.Core.Path.{◌≡◌, refl}
use Prim.Native.Nat.{ℕ, zero, suc, ◌+◌, ◌*◌, ◌≤◌, ◌<◌}
use native.Mathlib.Omega.{arith}
use Rattle.sbft.specs.Layout.{ib, part_count, part_of}

pub part-last : (k : ℕ) → 2 ≤ k → ib ≡ part_of k
unfolding part_of
part-last zero h = absurd (omega arith)
part-last (suc zero) h = absurd (omega arith)
part-last (suc (suc zero)) h = refl
part-last (suc (suc (suc k))) h = refl

pub word-place : (k : ℕ) → k < part_count → (part_of k).word ≡ 36 + 2 * k
unfolding part_of
word-place zero h = refl
word-place (suc zero) h = refl
word-place (suc (suc zero)) h = refl
word-place (suc (suc (suc k))) h = absurd (omega arith)
