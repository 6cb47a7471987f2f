-- Laws of lists made by counting.
--     tabulate-more, tabulate-done                            a loop that sets one element after the other
--     filled_none, filled-zeros, filled_more, filled-done     one that may stop early, since the others are 0
-- Assumes nothing.
use mathlib.Core.Path.{◌≡◌, refl, sym, ◌∙◌}
use mathlib.Core.List.{List}
use Prim.Native.Nat.{ℕ, zero, suc, ◌+◌, ◌≤◌, ◌<◌}
use native.Mathlib.Decide.{dec_lt}
use native.Mathlib.Omega.{arith}
use lib.ListN.{length, get_or, set, replicate, length-set}
use Rattle.std.proofs.lemmas.List.{length-replicate}
use lib.Seq.{ext_get_or, get_or-set_same, get_or-set_other}
use borrow.Author.Count.{below_more}
use Rattle.octets.specs.Counting.{tabulate}
use Rattle.octets.proofs.CountingLaws.{length-tabulate, get_d_tabulate}

-- a holds f of every number below k
module _ (f : ℕ → ℕ) (a : List ℕ) (k : ℕ) (made : (j : ℕ) → j < k → get_or a j 0 ≡ f j) where
  pub tabulate-more : k < length a → (v : ℕ) → v ≡ f k → (j : ℕ) → j < k + 1 → get_or (set a k v) j 0 ≡ f j
  tabulate-more h v e =
      below_more (λ (j : ℕ). get_or (set a k v) j 0 ≡ f j) k (λ j l. get_or-set_other a k j v 0 (omega arith) ∙ made j l) (get_or-set_same a k v 0 h ∙ e)

  pub tabulate-done : (n : ℕ) → length a ≡ n → n ≤ k → a ≡ tabulate f 0 n
  tabulate-done n e h =
      ext_get_or 0 a (tabulate f 0 n) (e ∙ sym (length-tabulate f 0 n))
      (λ j l. made j (omega arith) ∙ sym (get_d_tabulate f n j 0 (omega arith)))

-- a has n elements: f of every number below k, and 0 from there on
pub record Filled (f : ℕ → ℕ) (n k : ℕ) (a : List ℕ) : Type 0 where
  pub long : length a ≡ n
  pub made : (j : ℕ) → j < k → get_or a j 0 ≡ f j
  pub rest : (j : ℕ) → k ≤ j → get_or a j 0 ≡ 0

zeros-at : (n j : ℕ) → ◌≡◌ {A = ℕ} (get_or (replicate n 0) j 0) 0
zeros-at zero j = refl
zeros-at (suc n) zero = refl
zeros-at (suc n) (suc j) = zeros-at n j

pub filled_none : (f : ℕ → ℕ) (n : ℕ) → Filled f n 0 (replicate n 0)
filled_none f n = record { long = length-replicate n 0; made = λ j l. absurd (omega arith); rest = λ j l. zeros-at n j }

pub filled-zeros : (f : ℕ → ℕ) (n : ℕ) (a : List ℕ) → a ≡ replicate n 0 → Filled f n 0 a
filled-zeros f n a e = rw e (filled_none f n)

module _ (f : ℕ → ℕ) (n : ℕ) (a : List ℕ) (k : ℕ) (filled : Filled f n k a) where
  pub filled_more : k < n → (v : ℕ) → v ≡ f k → Filled f n (k + 1) (set a k v)
  filled_more h v e =
      record {
        long = simp length-set filled.long;
        made = tabulate-more f a k filled.made (omega (arith, filled.long)) v e;
        rest = λ j l. get_or-set_other a k j v 0 (omega arith) ∙ filled.rest j (omega arith);
      }

  pub filled-done : ((j : ℕ) → k ≤ j → f j ≡ 0) → a ≡ tabulate f 0 n
  filled-done past =
      ext_get_or 0 a (tabulate f 0 n) (filled.long ∙ sym (length-tabulate f 0 n))
      (λ j l. at j ∙ sym (get_d_tabulate f n j 0 (omega (arith, filled.long))))
    where
      at : (j : ℕ) → get_or a j 0 ≡ f j
      at j =
          elim (dec_lt j k) [
            | yes l ↦ filled.made j l
            | no l ↦ filled.rest j (omega arith) ∙ sym (past j (omega arith))
          ]
