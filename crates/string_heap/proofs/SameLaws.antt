-- Bytes that are the same in two byte strings, as a count from the back finds them by blocks.
--     differ-none, differ-zero     what a difference of 0 says, as a block adds it up
--     same_more                    one more block that is the same
--     agree-blocks                 a count that a block of one byte ends is the agreement
-- Assumes nothing.
use mathlib.Core.Path.{◌≡◌, ap, ap₂, ◌∙◌}
use mathlib.Core.List.{List}
use Prim.Native.Nat.{ℕ, ◌+◌, ◌-◌, ◌≤◌, min}
use native.Mathlib.Omega.{arith}
use native.Mathlib.Decide.{dec_lt}
use lib.ListN.{length, get_or}
use lib.Bits.{bit_or, bit_xor, and_le_l, and_le_r, or_add_and, xor_add_and, or_self, xor_self}
use Rattle.string_heap.specs.Tails.{agree}
use Rattle.string_heap.specs.Same.{SameFrom, SameBack}
use Rattle.string_heap.proofs.TailsLaws.{agree-is}

pub differ-none : (d x y : ℕ) → bit_or d (bit_xor x y) ≡ 0 → (d ≡ 0) × (x ≡ y)
differ-none d x y e =
    let or = or_add_and d (bit_xor x y) in
    let left = and_le_l d (bit_xor x y) in
    let right = and_le_r d (bit_xor x y) in
    let xor = xor_add_and x y in
    let low = and_le_l x y in
    let high = and_le_r x y in
    (omega arith, omega arith)

pub differ-zero : (d x y : ℕ) → d ≡ 0 → x ≡ y → bit_or d (bit_xor x y) ≡ 0
differ-zero d x y e same = ap₂ (λ (u v : ℕ). bit_or u (bit_xor v y)) e same ∙ ap (bit_or 0) (xor_self y) ∙ or_self 0

module _ (a b : List ℕ) where
  -- the last k bytes are the same, and the n before them
  pub same_more : (k n : ℕ) → k + n ≤ length a → k + n ≤ length b → SameBack a b k
      → SameFrom a (length a - (k + n)) b (length b - (k + n)) n → SameBack a b (k + n)
  same_more k n ha hb same block j h =
      elim (dec_lt j k) [
        | yes l ↦ same j l
        | no l ↦
            let i : ℕ = k + n - (j + 1) in
            let left : length a - (j + 1) ≡ length a - (k + n) + i = omega arith in
            let right : length b - (k + n) + i ≡ length b - (j + 1) = omega arith in
            ap (λ (m : ℕ). get_or a m 0) left ∙ block i (omega arith) ∙ ap (λ (m : ℕ). get_or b m 0) right
      ]

  -- the last n bytes are the same, and where both go on, the block of one byte before them differs
  pub agree-blocks : (n : ℕ) → n ≤ min (length a) (length b) → SameBack a b n
      → (n + 1 ≤ min (length a) (length b) → SameFrom a (length a - (n + 1)) b (length b - (n + 1)) 1 → ⊥) → n ≡ agree a b
  agree-blocks n fits same next =
      agree-is a b n fits same (λ l e. next (omega arith) (λ k h.
      let left : length a - (n + 1) + k ≡ length a - (n + 1) = omega arith in
      let right : length b - (n + 1) ≡ length b - (n + 1) + k = omega arith in
      ap (λ (m : ℕ). get_or a m 0) left ∙ e ∙ ap (λ (m : ℕ). get_or b m 0) right))
