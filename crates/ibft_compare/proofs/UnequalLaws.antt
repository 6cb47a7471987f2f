-- Laws of `first_unequal` and `unequal`: two strings are unequal exactly where they are not the same.
--     unequal-same, unequal-no     a string against itself; strings that are not unequal
--     unequal-is                   what `!=` says of two strings
-- Assumes nothing.
use mathlib.Core.Path.{◌≡◌, refl, sym, ap, ◌∙◌}
use mathlib.Core.Bool.{Bool, true, false, not, true≢false}
use mathlib.Core.List.{List}
use Prim.Native.Nat.{ℕ, ◌<◌, min}
use native.Mathlib.Omega.{arith}
use borrow.Author.Tests.{eq-eqb, eqb-true, not-false}
use lib.ListN.{length}
use lib.Seq.{ext_get_or}
use lib.Dec.{eqb}
use lib.Pointwise.{pointwise, bytes_decides}
use Rattle.octets.specs.Octets.{byte, differs}
use Rattle.octets.proofs.CountingLaws.{first-is, first_below}
use Rattle.octets.proofs.TestLaws.{and_both, differs-no, same_differs}
use Rattle.ibft_compare.specs.Differences.{first_unequal, unequal}

module _ (a b : List ℕ) where
  -- before the first unequal byte the two are the same
  first-unequal-before : (k : ℕ) → k < first_unequal a b → byte a k ≡ byte b k
  unfolding first_unequal
  first-unequal-before k h =
      differs-no (byte a k) (byte b k) (first_below (min (length a) (length b)) (λ (k : ℕ). differs (byte a k) (byte b k)) k h)

-- all bytes of a string against itself are the same
first-unequal-self : (a : List ℕ) → first_unequal a a ≡ length a
unfolding first_unequal
first-unequal-self a =
    first-is (min (length a) (length a)) (λ (k : ℕ). differs (byte a k) (byte a k)) (length a) (omega arith)
    (λ k l. same_differs (byte a k) (byte a k) refl) (λ l. absurd (omega arith))

pub unequal-same : (a : List ℕ) → unequal a a ≡ false
unfolding unequal
unequal-same a = rw (eq-eqb (length a) (length a) refl, eq-eqb (first_unequal a a) (length a) (first-unequal-self a))

pub unequal-no : (a b : List ℕ) → unequal a b ≡ false → a ≡ b
unfolding unequal
unequal-no a b e =
    let both = and_both (eqb (length a) (length b)) (eqb (first_unequal a b) (length a)) (not-false _ e) in
    ext_get_or 0 a b (eqb-true (length a) (length b) both.0)
    (λ k l. first-unequal-before a b k (omega (arith, eqb-true (first_unequal a b) (length a) both.1)))

pub unequal-is : (a b : List ℕ) (r : Bool) → r ≡ not (pointwise eqb a b) → r ≡ unequal a b
unequal-is a b r is = is ∙ go (pointwise eqb a b) (unequal a b) refl refl
  where
    go : (p u : Bool) → pointwise eqb a b ≡ p → unequal a b ≡ u → not p ≡ u
    go true true e f = absurd (true≢false (sym f ∙ ap (unequal a) (sym ((bytes_decides a b).0 e)) ∙ unequal-same a))
    go true false e f = refl
    go false true e f = refl
    go false false e f = absurd (true≢false (sym ((bytes_decides a b).1 (unequal-no a b f)) ∙ e))
