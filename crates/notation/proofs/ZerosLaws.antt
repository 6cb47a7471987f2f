-- Laws of lists of zeros.
--     zeros-append, zeros-drop, zeros-take     zeros behind zeros, all but the first of them, the first of them
-- Assumes nothing.
use Rattle.std.proofs.Common.{◌≡◌, ℕ, zero, suc, ◌+◌, ◌-◌, ◌≤◌, List, ◌∷◌, ◌++◌, take, drop, refl, sym, ap, ◌∙◌, zero-add, arith}
use Rattle.octets.specs.Octets.{zeros}

pub zeros-append : (n m : ℕ) → zeros n ++ zeros m ≡ zeros (n + m)
unfolding zeros
zeros-append zero m = ap zeros (sym (zero-add m))
zeros-append (suc n) m = let next : suc n + m ≡ suc (n + m) = omega arith in rw (next, zeros-append n m)

pub zeros-drop : (k n : ℕ) → drop k (zeros n) ≡ zeros (n - k)
unfolding zeros
zeros-drop zero n = let all : n - 0 ≡ n = omega arith in rw all
zeros-drop (suc k) zero = let none_left : 0 - suc k ≡ 0 = omega arith in rw none_left
zeros-drop (suc k) (suc n) =
    let less : suc n - suc k ≡ n - k = omega arith in
    zeros-drop k n ∙ ap zeros (sym less)

pub zeros-take : (k n : ℕ) → k ≤ n → take k (zeros n) ≡ zeros k
unfolding zeros
zeros-take zero n h = refl
zeros-take (suc k) zero h = absurd (omega arith)
zeros-take (suc k) (suc n) h = ap (λ (t : List ℕ). 0 ∷ t) (zeros-take k n (omega arith))
