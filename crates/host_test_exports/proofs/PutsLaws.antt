-- Writes in a row, each right behind the one before, are one write. Assumes nothing.
use mathlib.Core.Path.{◌≡◌, refl, sym, ap, ap₂, ◌∙◌}
use mathlib.Core.List.{List, ◌++◌, append_assoc}
use Prim.Native.Nat.{ℕ, ◌+◌}
use lib.ListN.{length, length-append}
use Rattle.octets.specs.Octets.{write}
use Rattle.octets.proofs.WriteLaws.{write-halves}
use Rattle.host_test_exports.specs.Puts.{Puts}

-- a call of `octets` that writes bytes written out, n of them
pub puts : {t u : List ℕ} {a n : ℕ} {ys : List ℕ} → length ys ≡ n → u ≡ write t a ys → Puts t u a n ys
puts size written = record { written = written; size = size }

pub behind : {t u w : List ℕ} {a n m : ℕ} {xs ys : List ℕ} → Puts t u a n xs → Puts u w (a + n) m ys → Puts t w a (n + m) (xs ++ ys)
behind {t} {u} {w} {a} {n} {m} {xs} {ys} p q =
    record {
      written = write-halves t u w a (a + n) xs ys (xs ++ ys) p.written q.written (ap (λ (k : ℕ). a + k) (sym p.size)) refl;
      size = length-append xs ys ∙ ap₂ ◌+◌ p.size q.size;
    }

-- the same behind two values that one call wrote
pub behind-both : {t u w : List ℕ} {a n m : ℕ} (xs ys : List ℕ) {zs : List ℕ} → Puts t u a n (xs ++ ys) → Puts u w (a + n) m zs
    → Puts t w a (n + m) (xs ++ (ys ++ zs))
behind-both xs ys p q = rw append_assoc at (behind p q)
