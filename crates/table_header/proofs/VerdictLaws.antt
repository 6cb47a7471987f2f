-- Laws of ordered tests: the first that fails decides, and an accepted list has none that fails.
--     Passed                                                   the first k tests have passed, as a function with a return for
--                                                              each test climbs them
--     returned                                                 what `?` returns where a verdict refuses
--     pass-cons, fail-cons, accept-cons, passes, cons_same     a list by its front test
--     first-append, append-accepted, append-refused            two lists: the first one's verdict, or else the second's
--     append-passes, append-same                               two lists accepted; two pairs of lists with one verdict
--     refused-front, refused-append                            a refusal by the test, and by the list, that gives it
--     append-stop, append-go, gather-stop, gather-go, gather-end     the same as functions and loops ask for it
--     split-stop, split-go                                     the first k of n lists by number, then the others
--     gather-passes, gather-accepts, gather-verdict-same       lists by number: accepted exactly where each is
--     none-fails, first-fails                                  the verdict as the promises say it
--     every_append, every-gather, every-cond, every-if, every_first    what all refusals of a list have, the one that it gives
--                                                                      has
-- What stands behind a refusal does not count. Assumes nothing.
use Rattle.std.specs.Prelude.{Ok, Err, IsErrAnd}
use mathlib.Core.Path.{◌≡◌, refl, sym, ap, ◌∙◌}
use mathlib.Core.Logic.{◌↔◌}
use mathlib.Core.List.{List, [], ◌∷◌, ◌++◌, append_assoc}
use mathlib.Core.Bool.{Bool, true, false, cond}
use Prim.Native.Nat.{ℕ, zero, suc, ◌+◌, ◌-◌, ◌≤◌, ◌<◌}
use native.Mathlib.Nat.{add-zero}
use native.Mathlib.Decide.{dec_lt}
use native.Mathlib.Omega.{arith}
use lib.ListN.{drop}
use Rattle.octets.specs.Counting.{gather}
use Rattle.octets.proofs.CountingLaws.{gather-step}
use Rattle.table_header.specs.Verdict.{Test, first_of, Verdict, Accepted, Refused}
use Rattle.table_header.specs.Promises.{NoneFails, none, next, FirstFails}
use Rattle.table_header.specs.declared.verdict.Refusal.{Refusal}

-- a verdict that accepts does not refuse
pub accepted-not-refused {ℓ} : {X : Type ℓ} {v : Verdict} {r : Refusal} → v ≡ Accepted → v ≡ Refused r → X
accepted-not-refused p q = absurd (let z : ◌≡◌ {A = ℕ} 0 1 = cc in omega arith)

-- a `?` passes a refusal on as it is
pub returned : (w v : Verdict) (r : Refusal) → IsErrAnd w (λ (e : Refusal). e ≡ r) → v ≡ Refused r → w ≡ v
returned (Ok u) v r h e = absurd h
returned (Err q) v r h e = ap Err h ∙ sym e

-- ---- the front test

pub accept-none : first_of [] ≡ Accepted
unfolding first_of
accept-none = refl

module _ (x : Test) (ts : List Test) where
  pub pass-cons : x.fails ≡ false → first_of (x ∷ ts) ≡ first_of ts
  unfolding first_of
  pass-cons e = rw e

  pub fail-cons : x.fails ≡ true → first_of (x ∷ ts) ≡ Refused x.refusal
  unfolding first_of
  fail-cons e = rw e

  pub accept-cons : x.fails ≡ false → first_of ts ≡ Accepted → first_of (x ∷ ts) ≡ Accepted
  accept-cons f e = pass-cons f ∙ e

  -- an accepted list's first test passed, and the rest is accepted
  pub passes : first_of (x ∷ ts) ≡ Accepted → (x.fails ≡ false) × (first_of ts ≡ Accepted)
  passes e = go x.fails refl
    where
      go : (b : Bool) → x.fails ≡ b → (x.fails ≡ false) × (first_of ts ≡ Accepted)
      go true f = accepted-not-refused e (fail-cons f)
      go false f = (f, sym (pass-cons f) ∙ e)

pub cons_same : (x y : Test) (xs ys : List Test) → x.fails ≡ y.fails → x.refusal ≡ y.refusal → (y.fails ≡ false → first_of xs ≡ first_of ys)
    → first_of (x ∷ xs) ≡ first_of (y ∷ ys)
cons_same x y xs ys f r rest = go y.fails refl
  where
    go : (b : Bool) → y.fails ≡ b → first_of (x ∷ xs) ≡ first_of (y ∷ ys)
    go true e = fail-cons x xs (f ∙ e) ∙ ap Refused r ∙ sym (fail-cons y ys e)
    go false e = pass-cons x xs (f ∙ e) ∙ rest e ∙ sym (pass-cons y ys e)

-- ---- one list after another

-- the first of two verdicts that refuses
abbrev pub or_else : Verdict → Verdict → Verdict
or_else (Ok u) w = w
or_else (Err r) w = Refused r

-- the first k of these tests have passed: the verdict of all is that of the tests behind them
abbrev pub Passed : List Test → ℕ → Type 0
Passed tests k = first_of tests ≡ first_of (drop k tests)

append-by : (fails : Bool) (r : Refusal) (v w u : Verdict) → v ≡ or_else w u → cond fails (Refused r) v ≡ or_else (cond fails (Refused r) w) u
append-by true r v w u e = refl
append-by false r v w u e = e

pub first-append : (xs ys : List Test) → first_of (xs ++ ys) ≡ or_else (first_of xs) (first_of ys)
unfolding first_of
first-append [] ys = refl
first-append (x ∷ xs) ys = append-by x.fails x.refusal (first_of (xs ++ ys)) (first_of xs) (first_of ys) (first-append xs ys)

module _ (xs ys : List Test) where
  pub append-accepted : first_of xs ≡ Accepted → first_of (xs ++ ys) ≡ first_of ys
  append-accepted e = first-append xs ys ∙ rw e

  pub append-refused : (r : Refusal) → first_of xs ≡ Refused r → first_of (xs ++ ys) ≡ Refused r
  append-refused r e = first-append xs ys ∙ rw e

  pub append-passes : first_of (xs ++ ys) ≡ Accepted → (first_of xs ≡ Accepted) × (first_of ys ≡ Accepted)
  append-passes e = go (first_of xs) refl
    where
      go : (v : Verdict) → first_of xs ≡ v → (first_of xs ≡ Accepted) × (first_of ys ≡ Accepted)
      go (Ok u) p = (p, sym (append-accepted p) ∙ e)
      go (Err r) p = accepted-not-refused e (append-refused r p)

  -- where the first list's verdict v refuses it is the whole's, where it accepts the second list's is
  module _ (v : Verdict) (is : v ≡ first_of xs) where
    pub append-stop : (r : Refusal) → v ≡ Refused r → v ≡ first_of (xs ++ ys)
    append-stop r e = e ∙ sym (append-refused r (sym is ∙ e))

    pub append-go : v ≡ Accepted → first_of ys ≡ first_of (xs ++ ys)
    append-go e = sym (append-accepted (sym is ∙ e))

-- a refusal is that of the front test, which fails, or it passes and the refusal is that of the rest; of two lists alike
module _ {X : Type 0} where
  pub refused-front : (x : Test) (ts : List Test) (r : Refusal) → first_of (x ∷ ts) ≡ Refused r → (x.fails ≡ true → x.refusal ≡ r → X)
      → (x.fails ≡ false → first_of ts ≡ Refused r → X) → X
  refused-front x ts r e front rest = go x.fails refl
    where
      go : (b : Bool) → x.fails ≡ b → X
      go true f = let same : Refused x.refusal ≡ Refused r = sym (fail-cons x ts f) ∙ e in front f cc
      go false f = rest f (sym (pass-cons x ts f) ∙ e)

  pub refused-append : (xs ys : List Test) (r : Refusal) → first_of (xs ++ ys) ≡ Refused r → (first_of xs ≡ Refused r → X)
      → (first_of xs ≡ Accepted → first_of ys ≡ Refused r → X) → X
  refused-append xs ys r e front rest = go (first_of xs) refl
    where
      go : (v : Verdict) → first_of xs ≡ v → X
      go (Ok u) f = rest f (sym (append-accepted xs ys f) ∙ e)
      go (Err q) f = front (f ∙ sym (append-refused xs ys q f) ∙ e)

pub append-same : (xs zs ys ws : List Test) → first_of xs ≡ first_of zs → (first_of zs ≡ Accepted → first_of ys ≡ first_of ws)
    → first_of (xs ++ ys) ≡ first_of (zs ++ ws)
append-same xs zs ys ws front rest = go (first_of zs) refl
  where
    go : (v : Verdict) → first_of zs ≡ v → first_of (xs ++ ys) ≡ first_of (zs ++ ws)
    go (Ok u) e = append-accepted xs ys (front ∙ e) ∙ rest e ∙ sym (append-accepted zs ws e)
    go (Err r) e = append-refused xs ys r (front ∙ e) ∙ sym (append-refused zs ws r e)

-- ---- a list for each number: a loop over those below n, at k

module _ (f : ℕ → List Test) (n k : ℕ) (h : k < n) (v : Verdict) (is : v ≡ first_of (f k)) where
  pub gather-stop : (r : Refusal) → v ≡ Refused r → v ≡ first_of (gather f k (n - k))
  gather-stop r e = append-stop (f k) (gather f (k + 1) (n - (k + 1))) v is r e ∙ sym (ap first_of (gather-step f n k h))

  pub gather-go : v ≡ Accepted → first_of (gather f (k + 1) (n - (k + 1))) ≡ first_of (gather f k (n - k))
  gather-go e = append-go (f k) (gather f (k + 1) (n - (k + 1))) v is e ∙ sym (ap first_of (gather-step f n k h))

pub gather-end : (f : ℕ → List Test) (n k : ℕ) → n - k ≡ 0 → first_of (gather f k (n - k)) ≡ Accepted
unfolding gather first_of
gather-end f n k e = rw e

-- ---- the lists of the n numbers from k on

-- the first k of n lists, then the others: where the verdict v of the first ones refuses it is the whole's, where it accepts
-- that of the others is
gather-split : (f : ℕ → List Test) (i k m : ℕ) → gather f i (k + m) ≡ gather f i k ++ gather f (i + k) m
unfolding gather
gather-split f i zero m =
    let none : 0 + m ≡ m = omega arith in
    rw (add-zero i, none)
gather-split f i (suc k) m =
    let one : suc k + m ≡ suc (k + m) = omega arith in
    let next : suc i + k ≡ i + suc k = omega arith in
    rw (one, append_assoc (f i) (gather f (suc i) k) (gather f (i + suc k) m), ← next) (ap (λ (l : List Test). f i ++ l) (gather-split f (suc i) k m))

module _ (f : ℕ → List Test) (k n : ℕ) (h : k ≤ n) (v : Verdict) (is : v ≡ first_of (gather f 0 k)) where
  split : gather f 0 k ++ gather f k (n - k) ≡ gather f 0 n
  split =
      let front : 0 + k ≡ k = omega arith in
      let all : k + (n - k) ≡ n = omega arith in
      rw front at (sym (gather-split f 0 k (n - k))) ∙ ap (gather f 0) all

  pub split-stop : (r : Refusal) → v ≡ Refused r → v ≡ first_of (gather f 0 n)
  split-stop r e = append-stop (gather f 0 k) (gather f k (n - k)) v is r e ∙ ap first_of split

  pub split-go : v ≡ Accepted → first_of (gather f k (n - k)) ≡ first_of (gather f 0 n)
  split-go e = append-go (gather f 0 k) (gather f k (n - k)) v is e ∙ ap first_of split

module _ (f : ℕ → List Test) where
  pub gather-passes : (n k i : ℕ) → first_of (gather f k n) ≡ Accepted → k ≤ i → i < k + n → first_of (f i) ≡ Accepted
  unfolding gather
  gather-passes zero k i e l h = absurd (omega arith)
  gather-passes (suc n) k i e l h =
      let w = append-passes (f k) (gather f (suc k) n) e in
      elim (dec_lt k i) [
        | yes m ↦ gather-passes n (suc k) i w.1 (omega arith) (omega arith)
        | no m ↦
            let z : i ≡ k = omega arith in
            ap (λ (j : ℕ). first_of (f j)) z ∙ w.0
      ]

  pub gather-accepts : (n k : ℕ) → ((i : ℕ) → k ≤ i → i < k + n → first_of (f i) ≡ Accepted) → first_of (gather f k n) ≡ Accepted
  unfolding gather
  gather-accepts zero k h = accept-none
  gather-accepts (suc n) k h =
      append-accepted (f k) (gather f (suc k) n) (h k (omega arith) (omega arith)) ∙ gather-accepts n (suc k) (λ i l m. h i (omega arith) (omega arith))

pub gather-verdict-same : (f g : ℕ → List Test) (k n : ℕ) → ((i : ℕ) → k ≤ i → i < k + n → first_of (f i) ≡ first_of (g i))
    → first_of (gather f k n) ≡ first_of (gather g k n)
unfolding gather
gather-verdict-same f g k zero h = refl
gather-verdict-same f g k (suc n) h =
    append-same (f k) (g k) (gather f (suc k) n) (gather g (suc k) n) (h k (omega arith) (omega arith))
    (λ e. gather-verdict-same f g (suc k) n (λ i l m. h i (omega arith) (omega arith)))

-- ---- the promises

none_from : (ts : List Test) → first_of ts ≡ Accepted → NoneFails ts
none_from [] e = none
none_from (x ∷ ts) e = next (passes x ts e).0 (none_from ts (passes x ts e).1)

none-to : {ts : List Test} → NoneFails ts → first_of ts ≡ Accepted
unfolding first_of
none-to none = refl
none-to (next e p) = rw e (none-to p)

pub none-fails : (ts : List Test) → (first_of ts ≡ Accepted) ↔ NoneFails ts
none-fails ts = (none_from ts, none-to)

-- a list's refusal is that of its first test, where this fails, or that of the rest, where it passes
refused-by : (x : Test) (ts : List Test) (r : Refusal) (fails : Bool) → x.fails ≡ fails
    → cond fails (Refused x.refusal) (first_of ts) ≡ Refused r → (first_of ts ≡ Refused r → FirstFails ts r) → FirstFails (x ∷ ts) r
refused-by x ts r true e v rest =
    record { before = []; test = x; after = ts; split = refl; passed = none; fails = e; gives = cc }
refused-by x ts r false e v rest =
    let f = rest v in
    record {
      before = x ∷ f.before;
      test = f.test;
      after = f.after;
      split = ap (λ (l : List Test). x ∷ l) f.split;
      passed = next e f.passed;
      fails = f.fails;
      gives = f.gives;
    }

first-from : (ts : List Test) (r : Refusal) → first_of ts ≡ Refused r → FirstFails ts r
unfolding first_of
first-from [] r e = accepted-not-refused accept-none e
first-from (x ∷ ts) r e = refused-by x ts r x.fails refl e (first-from ts r)

first_to : (ts : List Test) (r : Refusal) → FirstFails ts r → first_of ts ≡ Refused r
first_to ts r f =
    ap first_of f.split
    ∙ append-accepted f.before (f.test ∷ f.after) (none-to f.passed)
    ∙ fail-cons f.test f.after f.fails
    ∙ ap Refused f.gives

pub first-fails : (ts : List Test) (r : Refusal) → (first_of ts ≡ Refused r) ↔ FirstFails ts r
first-fails ts r = (first-from ts r, first_to ts r)

-- ---- a property that every refusal of a list has

pub data Every (P : Refusal → Type 0) : List Test → Type 0 where
  every-none : Every P []
  every-next : {t : Test} {ts : List Test} → P t.refusal → Every P ts → Every P (t ∷ ts)

first-by : (P : Refusal → Type 0) (x : Test) (v : Verdict) (r : Refusal) (fails : Bool) → P x.refusal → cond fails (Refused x.refusal) v ≡ Refused r
    → (v ≡ Refused r → P r) → P r
first-by P x v r true h e rest = let same : x.refusal ≡ r = cc in rw (← same) h
first-by P x v r false h e rest = rest e

module _ {P : Refusal → Type 0} where
  pub every_append : {xs ys : List Test} → Every P xs → Every P ys → Every P (xs ++ ys)
  every_append every-none q = q
  every_append (every-next h p) q = every-next h (every_append p q)

  pub every-gather : (f : ℕ → List Test) (n k : ℕ) → ((i : ℕ) → i < k + n → Every P (f i)) → Every P (gather f k n)
  unfolding gather
  every-gather f zero k each = every-none
  every-gather f (suc n) k each = every_append (each k (omega arith)) (every-gather f n (suc k) (λ i h. each i (omega arith)))

  -- the tests of one list or of another, by the flag
  pub every-cond : (b : Bool) {xs ys : List Test} → Every P xs → Every P ys → Every P (cond b xs ys)
  every-cond true p q = p
  every-cond false p q = q

  -- tests that are made only where the flag is set
  pub every-if : (b : Bool) {xs : List Test} → Every P xs → Every P (cond b xs [])
  every-if b p = every-cond b p every-none

  pub every_first : {ts : List Test} → Every P ts → (r : Refusal) → first_of ts ≡ Refused r → P r
  unfolding first_of
  every_first every-none r e = accepted-not-refused accept-none e
  every_first (every-next {t} {ts} h p) r e = first-by P t (first_of ts) r t.fails h e (every_first p r)
