-- Texts joined with a separator between, and taken apart again; bytes that are in none of them.
--     lacks-front, lacks-each, lacks-append     a text without a byte that passes a test
--     holds-no, holds-yes                       whether a byte is in the text
--     pieces-listed                             joined and taken apart
--     lacks-join, join-some, join-length        a joined text, by its parts
-- Assumes nothing.
use mathlib.Core.Path.{◌≡◌, refl}
use mathlib.Core.Bool.{Bool, true, false, cond, not}
use mathlib.Core.List.{List, [], ◌∷◌, ◌++◌}
use Prim.Native.Nat.{ℕ, zero, suc, ◌+◌, ◌*◌, ◌≤◌, ◌<◌}
use native.Mathlib.Nat.{suc-mul}
use native.Mathlib.Omega.{arith}
use borrow.Author.Tests.{not-true, lt-ltb, le-ltb, eq-eqb}
use lib.ListN.{length, length-append}
use lib.Dec.{eqb}
use Rattle.octets.specs.Counting.{tabulate}
use Rattle.octets.specs.Octets.{byte}
use Rattle.octets.proofs.TestLaws.{and_both}
use Rattle.text.proofs.SplitLaws.{pieces-join}
use Rattle.text.specs.Split.{is, before, each, lacks, index_of, pieces, join}
use Rattle.notation.specs.Address.{holds}

-- ---- no byte passes the test

module _ (p : ℕ → Bool) where
  pub lacks-front : (b : ℕ) (x : List ℕ) → lacks p (b ∷ x) ≡ true → (p b ≡ false) × (lacks p x ≡ true)
  unfolding each
  lacks-front b x e = let h = and_both (not (p b)) (lacks p x) e in (not-true (p b) h.0, h.1)

  pub lacks-each : (x : List ℕ) → ((k : ℕ) → k < length x → p (byte x k) ≡ false) → lacks p x ≡ true
  unfolding each
  lacks-each [] h = refl
  lacks-each (b ∷ x) h = rw (h 0 (omega arith)) (lacks-each x (λ k l. h (suc k) (omega arith)))

  pub lacks-append : (x y : List ℕ) → lacks p x ≡ true → lacks p y ≡ true → lacks p (x ++ y) ≡ true
  unfolding each
  lacks-append [] y e f = f
  lacks-append (b ∷ x) y e f = let h = lacks-front b x e in rw h.0 (lacks-append x y h.1 f)

-- ---- a byte that is in the text, or not

module _ (b : ℕ) where
  index-end : (x : List ℕ) → lacks (is b) x ≡ true → length x ≤ index_of b x
  unfolding before
  index-end [] e = omega arith
  index-end (c ∷ x) e = let h = lacks-front (is b) c x e in rw h.0 (omega (arith, index-end x h.1))

  pub holds-no : (x : List ℕ) → lacks (is b) x ≡ true → holds b x ≡ false
  holds-no x e = le-ltb (index_of b x) (length x) (index-end x e)

  index-within : (x y : List ℕ) → index_of b (x ++ (b ∷ y)) ≤ length x
  unfolding before
  index-within [] y = rw (eq-eqb b b refl) (omega arith)
  index-within (c ∷ x) y = go (eqb c b) (index-within x y)
    where
      go : (d : Bool) → index_of b (x ++ (b ∷ y)) ≤ length x → cond d 0 (suc (index_of b (x ++ (b ∷ y)))) ≤ suc (length x)
      go true h = omega arith
      go false h = omega arith

  pub holds-yes : (x y : List ℕ) → holds b (x ++ (b ∷ y)) ≡ true
  holds-yes x y = lt-ltb (index_of b (x ++ (b ∷ y))) (length (x ++ (b ∷ y))) (omega (arith, index-within x y, length-append x (b ∷ y)))

-- ---- the texts d k, d (k + 1), .. joined

module _ (sep : ℕ) (d : ℕ → List ℕ) where
  each-lacks : ((j : ℕ) → lacks (is sep) (d j) ≡ true) → (k n : ℕ) → each (lacks (is sep)) (tabulate d k n) ≡ true
  unfolding each tabulate
  each-lacks clean k zero = refl
  each-lacks clean k (suc n) = rw (clean k) (each-lacks clean (suc k) n)

  pub pieces-listed : ((j : ℕ) → lacks (is sep) (d j) ≡ true) → (k n : ℕ) → pieces sep (join sep (tabulate d k (suc n))) ≡ tabulate d k (suc n)
  unfolding tabulate
  pieces-listed clean k n = pieces-join sep (d k) (tabulate d (suc k) n) (each-lacks clean k (suc n))

  pub lacks-join : (p : ℕ → Bool) → p sep ≡ false → ((j : ℕ) → lacks p (d j) ≡ true) → (k n : ℕ) → lacks p (join sep (tabulate d k n)) ≡ true
  unfolding join tabulate each
  lacks-join p other clean k zero = refl
  lacks-join p other clean k (suc zero) = clean k
  lacks-join p other clean k (suc (suc n)) =
      lacks-append p (d k) (sep ∷ join sep (tabulate d (suc k) (suc n))) (clean k) (rw other (lacks-join p other clean (suc k) (suc n)))

  pub join-some : ((j : ℕ) → 1 ≤ length (d j)) → (k n : ℕ) → 1 ≤ length (join sep (tabulate d k (suc n)))
  unfolding join tabulate
  join-some one k zero = one k
  join-some one k (suc n) = omega (arith, one k, length-append (d k) (sep ∷ join sep (tabulate d (suc k) (suc n))))

  -- n texts of at most w bytes, and n - 1 separators
  pub join-length : (w : ℕ) → ((j : ℕ) → length (d j) ≤ w) → (k n : ℕ) → length (join sep (tabulate d k (suc n))) ≤ n * (w + 1) + w
  unfolding join tabulate
  join-length w short k zero = omega (arith, short k)
  join-length w short k (suc n) =
      omega (arith, short k, length-append (d k) (sep ∷ join sep (tabulate d (suc k) (suc n))), join-length w short (suc k) n, suc-mul n (w + 1))
