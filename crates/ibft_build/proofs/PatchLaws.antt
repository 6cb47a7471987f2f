-- Laws of writes, as the writers need them: a stretch that was lent and came back filled, a stretch filled whole, one list
-- behind another.
--     write_mid      a part lent from the middle, filled with zs
--     write-all      a write that fills the whole
--     write_then     a write right behind another
--     fills-three    three writes that fill a stretch
--     gather-add, gather-length                   lists behind one another
--     gather-given                                those of the first so many numbers, where the others have none
--     gather_none, gather-next, gather-done       a loop that writes them
-- Assumes nothing.
use mathlib.Core.Path.{◌≡◌, sym, ap, ap₂, ◌∙◌}
use mathlib.Core.Bool.{Bool, cond}
use mathlib.Core.List.{List, [], ◌++◌, append_assoc, append-nil}
use Prim.Native.Nat.{ℕ, zero, suc, ◌+◌, ◌*◌, ◌-◌, min, ◌≤◌, ◌<◌}
use native.Mathlib.Numerals.{add-one}
use native.Mathlib.Nat.{add-zero}
use native.Mathlib.Decide.{dec_lt}
use native.Mathlib.Omega.{arith}
use lib.Dec.{ltb}
use lib.ListN.{length, take, drop, length-append, drop_of_length-le}
use lib.Seq.{take_all}
use borrow.Author.Tests.{lt-ltb, le-ltb}
use borrow.Rule.Slice.PartMut.{put_mid, post_of, Post-is}
use Rattle.octets.specs.Counting.{gather}
use Rattle.octets.specs.Octets.{write}
use Rattle.octets.proofs.CountingLaws.{gather-last}
use Rattle.octets.proofs.WriteLaws.{write-front, write-next, write-nothing}

pub write_mid : (t : List ℕ) (a e : ℕ) (ys zs : List ℕ) → ys ≡ zs → a + length zs ≡ e → e ≤ length t → put_mid a (e - a) t ys ≡ write t a zs
unfolding write
write_mid t a e ys zs same ends fits =
    let fit : take (length t - a) zs ≡ zs = take_all (length t - a) zs (omega arith) in
    ap (λ (l : List ℕ). take a t ++ (l ++ post_of a (e - a) t)) same
    ∙ ap (λ (l : List ℕ). take a t ++ (zs ++ l)) (Post-is a e t (omega arith) ∙ ap (λ (n : ℕ). drop n t) (sym ends))
    ∙ ap (λ (l : List ℕ). take a t ++ (l ++ drop (a + length zs) t)) (sym fit)

pub write-all : (t ys : List ℕ) → length ys ≡ length t → write t 0 ys ≡ ys
write-all t ys e =
    write-front t ys (omega arith) ∙ ap (λ (l : List ℕ). ys ++ l) (drop_of_length-le t {i = length ys} (omega arith)) ∙ append-nil ys

pub write_then : (t u w : List ℕ) (a b : ℕ) (ys zs : List ℕ) → u ≡ write t a ys → w ≡ write u b zs → b ≡ a + length ys → w ≡ write t a (ys ++ zs)
write_then t u w a b ys zs e f at = f ∙ ap (λ (l : List ℕ). write l b zs) e ∙ write-next t a b ys zs at

-- t is a whole stretch: what is written to it, each behind the one before
pub fills-three : (t u w : List ℕ) (a : ℕ) (x y : List ℕ) → u ≡ write t 0 x → a ≡ length x → (v : List ℕ) (b : ℕ) (z : List ℕ) → v ≡ write u a y
    → w ≡ write v b z → b ≡ a + length y → b + length z ≡ length t → w ≡ x ++ (y ++ z)
fills-three t u w a x y first behind v b z second third at whole =
    let both : v ≡ write t 0 (x ++ y) = write_then t u v 0 a x y first second (omega arith) in
    let long = length-append x y in
    write_then t v w 0 b (x ++ y) z both third (omega arith)
    ∙ write-all t ((x ++ y) ++ z) (omega (arith, length-append (x ++ y) z))
    ∙ append_assoc x y z

-- ---- lists behind one another

pub gather-add : (f : ℕ → List ℕ) (k n m : ℕ) → gather f k (n + m) ≡ gather f k n ++ gather f (k + n) m
unfolding gather
gather-add f k n zero = ap (gather f k) (add-zero n) ∙ sym (append-nil (gather f k n))
gather-add f k n (suc m) =
    let last : n + suc m ≡ suc (n + m) = omega arith in
    let at : k + (n + m) ≡ k + n + m = omega arith in
    ap (gather f k) last ∙ gather-last f k (n + m)
    ∙ ap₂ (λ (l : List ℕ) (i : ℕ). l ++ f i) (gather-add f k n m) at
    ∙ append_assoc (gather f k n) (gather f (k + n) m) (f (k + n + m))
    ∙ sym (ap (λ (l : List ℕ). gather f k n ++ l) (gather-last f (k + n) m))

-- of the n numbers from k on the first m have a list
pub gather-given : (f : ℕ → List ℕ) (on : ℕ → Bool) (k n m : ℕ) → ((i : ℕ) → i < n → on (k + i) ≡ ltb i m)
    → gather (λ (j : ℕ). cond (on j) (f j) []) k n ≡ gather f k (min n m)
unfolding gather
gather-given f on k zero m h = let none : 0 ≡ min 0 m = omega arith in ap (gather f k) none
gather-given f on k (suc n) m h =
    gather-last (λ (j : ℕ). cond (on j) (f j) []) k n
    ∙ ap₂ (λ (l : List ℕ) (b : Bool). l ++ cond b (f (k + n)) []) (gather-given f on k n m (λ i l. h i (omega arith))) (h n (omega arith))
    ∙ elim (dec_lt n m) [
      | yes l ↦
          let here : min n m ≡ n = omega arith in
          let next : suc n ≡ min (suc n) m = omega arith in
          ap₂ (λ (b : Bool) (i : ℕ). gather f k i ++ cond b (f (k + n)) []) (lt-ltb n m l) here
          ∙ sym (gather-last f k n) ∙ ap (gather f k) next
      | no l ↦
          let next : min n m ≡ min (suc n) m = omega arith in
          ap (λ (b : Bool). gather f k (min n m) ++ cond b (f (k + n)) []) (le-ltb n m (omega arith))
          ∙ append-nil (gather f k (min n m)) ∙ ap (gather f k) next
    ]

pub gather-length : (f : ℕ → List ℕ) (m k n : ℕ) → ((i : ℕ) → length (f i) ≡ m) → length (gather f k n) ≡ m * n
unfolding gather
gather-length f m k zero h = omega arith
gather-length f m k (suc n) h = omega (arith, length-append (f k) (gather f (suc k) n), h k, gather-length f m (suc k) n h)

-- the loop has written f of the n numbers from k on, from `at` on
module _ (f : ℕ → List ℕ) (k at : ℕ) (t : List ℕ) where
  pub gather_none : t ≡ write t at (gather f k 0)
  unfolding gather
  gather_none = sym (write-nothing t at)

  pub gather-next : (n i b : ℕ) (u w : List ℕ) → u ≡ write t at (gather f k n) → i ≡ k + n → b ≡ at + length (gather f k n) → w ≡ write u b (f i)
      → w ≡ write t at (gather f k (n + 1))
  gather-next n i b u w e ei eb g =
      write_then t u w at b (gather f k n) (f i) e g eb
      ∙ ap (λ (j : ℕ). write t at (gather f k n ++ f j)) ei
      ∙ ap (write t at) (sym (gather-last f k n))
      ∙ ap (λ (m : ℕ). write t at (gather f k m)) (sym (add-one n))

  pub gather-done : (n m : ℕ) (u : List ℕ) → u ≡ write t at (gather f k n) → n ≡ m → u ≡ write t at (gather f k m)
  gather-done n m u e same = e ∙ ap (λ (i : ℕ). write t at (gather f k i)) same
