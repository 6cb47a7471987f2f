-- Where an entry stands in the heap that the build writes.
--     found, held       every present entry has a holder: a stored entry that ends with it
--     holder-self         a stored entry is its own holder
--     heap-length       how long the heap's bytes are
--     placed            every present entry stands at its place
-- Assumes nothing.
use Rattle.std.specs.Prelude.{None, Some}
use Rattle.string_heap.specs.Stored.{Entry, covered_by, covers, heap_size, of_stored, size, stored, stored_as}
use Rattle.octets.specs.Counting.{any, first, sum_to}
use Rattle.string_heap.specs.Tails.{is_tail}
use Rattle.string_heap.specs.Places.{bytes_of, ends_with, heap_to, holds, holder, len, place}
use mathlib.Core.Path.{◌≡◌, refl, sym, ap, ap₂, ◌∙◌}
use mathlib.Core.Logic.{◌⊎◌, inl, inr, ⊎_elim}
use mathlib.Core.Bool.{Bool, true, false, not, ◌&&◌, ◌||◌}
use mathlib.Core.List.{List, [], ◌∷◌, ◌++◌}
use Prim.Native.Nat.{ℕ, zero, suc, ◌+◌, ◌-◌, ◌≤◌, ◌<◌}
use native.Mathlib.Omega.{arith}
use native.Mathlib.Decide.{dec_lt}
use lib.Dec.{ltb, eqb}
use lib.ListN.{length, get_or, length-append, get_or-append}
use lib.Seq.{get_or-append-add, get_or-append_seam}
use borrow.Author.Tests.{eq-eqb, ne_eqb, ltb-true}
use Rattle.octets.proofs.CountingLaws.{first-is, any-first, any-yes, clash}
use Rattle.octets.proofs.TestLaws.{and_both}
use Rattle.string_heap.proofs.Intervals.{sum_to-mono}
use Rattle.string_heap.proofs.TailsLaws.{is_tail-yes, is_tail-true, Tail, Stands, tail-trans, tail-refl}
use Rattle.string_heap.proofs.StoredLaws.{no-tail}

pub either : (s t : Bool) → (s || t) ≡ true → (s ≡ true) ⊎ (t ≡ true)
either true t p = inl refl
either false t p = inr p

module _ (n : ℕ) (shares : ℕ → Bool) (e : ℕ → Entry) where
  -- ---- every present entry has a holder

  pub record Found (i : ℕ) (a : List ℕ) : Type 0 where
    pub j : ℕ
    pub b : List ℕ
    pub below : j < n
    pub is : e j ≡ Some b
    pub kept : stored n shares e j ≡ true
    pub ends : Tail a b
    pub may : (i ≡ j) ⊎ ((shares i ≡ true) × (shares j ≡ true))

  -- an entry that is not stored is covered by another
  pub record Covered (i : ℕ) (a : List ℕ) : Type 0 where
    pub j : ℕ
    pub b : List ℕ
    pub below : j < n
    pub is : e j ≡ Some b
    pub ends : Tail a b
    pub sharesᵢ : shares i ≡ true
    pub sharesⱼ : shares j ≡ true
    pub prior : (length a < length b) ⊎ (j < i)

  covered : (i : ℕ) (a : List ℕ) → e i ≡ Some a → stored n shares e i ≡ false → Covered i a
  unfolding stored_as covered_by
  covered i a ei st =
      let p : ℕ → Bool = λ j. covered_by shares i a j (e j) in
      let no : not (shares i && any n p) ≡ false = sym (ap (stored_as n shares e i) ei) ∙ st in
      let w = and_both (shares i) (any n p) (flip (shares i && any n p) no) in
      let f = any-first n p w.1 in
      go (first n p) f.0 w.0 (e (first n p)) refl f.1
    where
      flip : (b : Bool) → not b ≡ false → b ≡ true
      flip true q = refl
      flip false q = sym q

      go : (j : ℕ) → j < n → shares i ≡ true → (o : Entry) → e j ≡ o → covered_by shares i a j (e j) ≡ true → Covered i a
      go j h si None ej c = clash c (ap (covered_by shares i a j) ej)
      go j h si (Some b) ej c =
          let c' = and_both (shares j) (covers i a j b) (sym (ap (covered_by shares i a j) ej) ∙ c) in
          let d = and_both (is_tail a b) (ltb (length a) (length b) || ltb j i) c'.1 in
          record {
            j = j;
            b = b;
            below = h;
            is = ej;
            ends = is_tail-true a b d.0;
            sharesᵢ = si;
            sharesⱼ = c'.0;
            prior = ⊎_elim (λ x. inl (ltb-true (length a) (length b) x)) (λ x. inr (ltb-true j i x)) (either (ltb (length a) (length b)) (ltb j i) d.1);
          }

  -- no entry is longer than all of them together
  most : ℕ
  most = sum_to n (λ (i : ℕ). len (e i))

  len-most : (k : ℕ) (i : ℕ) (a : List ℕ) → i < k → e i ≡ Some a → length a ≤ sum_to k (λ (i : ℕ). len (e i))
  unfolding sum_to len
  len-most zero i a h ei = absurd (omega arith)
  len-most (suc k) i a h ei =
      elim (dec_lt i k) [
        | yes l ↦ omega (arith, len-most k i a l ei)
        | no l ↦
            let z : i ≡ k = omega arith in
            omega (arith, ap len (sym (ap e z) ∙ ei))
      ]

  -- from i's cover to i's holder
  onward : (i : ℕ) (a : List ℕ) (c : Covered i a) → Found c.j c.b → Found i a
  onward i a c f = record {
    j = f.j;
    b = f.b;
    below = f.below;
    is = f.is;
    kept = f.kept;
    ends = tail-trans a c.b f.b c.ends f.ends;
    may = inr (c.sharesᵢ, ⊎_elim (λ z. sym (ap shares z) ∙ c.sharesⱼ) (λ w. w.1) f.may);
  }

  -- one step: stored, or look further
  step : (i : ℕ) (a : List ℕ) → i < n → e i ≡ Some a → ((c : Covered i a) → Found c.j c.b) → Found i a
  step i a h ei more = go (stored n shares e i) refl
    where
      go : (b : Bool) → stored n shares e i ≡ b → Found i a
      go true st = record { j = i; b = a; below = h; is = ei; kept = st; ends = tail-refl a; may = inl refl }
      go false st = let c = covered i a ei st in onward i a c (more c)

  -- The cover is longer, or as long and of a lower number: d counts the lengths that are left, k the numbers.
  inner : (d : ℕ) → ((j : ℕ) (b : List ℕ) → j < n → e j ≡ Some b → most < length b + d → Found j b)
      → (k i : ℕ) (a : List ℕ) → i < k → i < n → e i ≡ Some a → most < length a + suc d → Found i a
  inner d outer zero i a h hn ei l = absurd (omega arith)
  inner d outer (suc k) i a h hn ei l =
      step i a hn ei
      (λ c. ⊎_elim
      (λ longer. outer c.j c.b c.below c.is (omega arith))
      (λ lower. let f = c.ends.fits in inner d outer k c.j c.b (omega arith) c.below c.is (omega arith))
      c.prior)

  outer : (d : ℕ) (j : ℕ) (b : List ℕ) → j < n → e j ≡ Some b → most < length b + d → Found j b
  unfolding most
  outer zero j b h ej l = absurd (omega (arith, len-most n j b h ej))
  outer (suc d) j b h ej l = inner d (outer d) n j b h h ej l

  pub found : (i : ℕ) (a : List ℕ) → i < n → e i ≡ Some a → Found i a
  found i a h ei = outer (suc most) i a h ei (omega arith)

  -- ---- the holder is the first of them

  pub record Held (i : ℕ) (a : List ℕ) : Type 0 where
    pub b : List ℕ
    pub below : (holder n shares e) i a < n
    pub is : e ((holder n shares e) i a) ≡ Some b
    pub kept : stored n shares e ((holder n shares e) i a) ≡ true
    pub ends : Tail a b

  pub held : (i : ℕ) (a : List ℕ) → i < n → e i ≡ Some a → Held i a
  unfolding holder holds ends_with any
  held i a h ei =
      let f = found i a h ei in
      let ok : (holds n shares e) i a f.j ≡ true =
      join (stored n shares e f.j) (ends_with a (e f.j)) (eqb i f.j || (shares i && shares f.j)) f.kept
      (ap (ends_with a) f.is ∙ is_tail-yes a f.b f.ends) (⊎_elim (λ z. self f.j z) (λ w. other (eqb i f.j) f.j w.0 w.1) f.may) in
      let w = any-first n ((holds n shares e) i a) (any-yes n ((holds n shares e) i a) f.j f.below ok) in
      let u = and_both (stored n shares e ((holder n shares e) i a) && ends_with a (e ((holder n shares e) i a)))
      (eqb i ((holder n shares e) i a) || (shares i && shares ((holder n shares e) i a))) w.1 in
      let v = and_both (stored n shares e ((holder n shares e) i a)) (ends_with a (e ((holder n shares e) i a))) u.0 in
      go w.0 v.0 (e ((holder n shares e) i a)) refl v.1
    where
      join : (x y z : Bool) → x ≡ true → y ≡ true → z ≡ true → (x && y && z) ≡ true
      join x y z p q r = cc

      self : (j : ℕ) → i ≡ j → (eqb i j || (shares i && shares j)) ≡ true
      self j z = ap (λ (t : Bool). t || (shares i && shares j)) (eq-eqb i j z)

      other : (t : Bool) (j : ℕ) → shares i ≡ true → shares j ≡ true → (t || (shares i && shares j)) ≡ true
      other true j p q = refl
      other false j p q = ap₂ (λ (x y : Bool). x && y) p q

      go : (holder n shares e) i a < n → stored n shares e ((holder n shares e) i a) ≡ true → (o : Entry)
          → e ((holder n shares e) i a) ≡ o → ends_with a (e ((holder n shares e) i a)) ≡ true → Held i a
      go l st None eo t = clash t (ap (ends_with a) eo)
      go l st (Some b) eo t = record { b = b; below = l; is = eo; kept = st; ends = is_tail-true a b (sym (ap (ends_with a) eo) ∙ t) }

  -- ---- a stored entry is its own holder

  not-both : (x y z : Bool) → (x ≡ true → y ≡ true → z ≡ true → ⊥) → (x && y && z) ≡ false
  not-both true true true h = absurd (h refl refl refl)
  not-both true true false h = refl
  not-both true false z h = refl
  not-both false y z h = refl

  pub holder-self : (i : ℕ) (a : List ℕ) → i < n → e i ≡ Some a → stored n shares e i ≡ true → (holder n shares e) i a ≡ i
  unfolding holder holds ends_with
  holder-self i a h ei st =
      first-is n ((holds n shares e) i a) i (omega arith)
      (λ j l. not-both (stored n shares e j) (ends_with a (e j)) (eqb i j || (shares i && shares j)) (λ sj t may. other j l (e j) refl sj t may))
      (λ l. ap₂ (λ (x y : Bool). x && y && (eqb i i || (shares i && shares i))) st
      (ap (ends_with a) ei ∙ is_tail-yes a a (tail-refl a))
      ∙ ap (λ (x : Bool). x || (shares i && shares i)) (eq-eqb i i refl))
    where
      other : (j : ℕ) → j < i → (o : Entry) → e j ≡ o → stored n shares e j ≡ true → ends_with a (e j) ≡ true → (eqb i j || (shares i && shares j)) ≡ true → ⊥
      other j l None ej sj t may = clash t (ap (ends_with a) ej)
      other j l (Some b) ej sj t may =
          let w = and_both (shares i) (shares j) (sym (ap (λ (x : Bool). x || (shares i && shares j)) (ne_eqb i j (λ z. omega arith))) ∙ may) in
          no-tail n shares e i a j b h (omega arith) (λ z. omega arith) ei ej st sj w.0 w.1 (is_tail-true a b (sym (ap (ends_with a) ej) ∙ t))

  -- ---- the heap's bytes

  pub heap-length : (k : ℕ) → length ((heap_to n shares e) k) ≡ sum_to k (λ (i : ℕ). size n shares e i)
  unfolding heap_to sum_to of_stored bytes_of
  heap-length zero = refl
  heap-length (suc k) =
      length-append ((heap_to n shares e) k) (bytes_of (e k) (stored n shares e k)) ∙ ap₂ (λ (x y : ℕ). x + y) (heap-length k) (one (e k) (stored n shares e k))
    where
      one : (o : Entry) (b : Bool) → length (bytes_of o b) ≡ of_stored o b (λ (a : List ℕ). length a + 1)
      one None b = refl
      one (Some a) true = length-append a (0 ∷ [])
      one (Some a) false = refl

  -- entry j's bytes and its zero stand where the sizes before it sum to
  heap-at : (k j : ℕ) (b : List ℕ) → j < k → e j ≡ Some b → stored n shares e j ≡ true
      → (x : ℕ) → x ≤ length b → get_or ((heap_to n shares e) k) (sum_to j (λ (i : ℕ). size n shares e i) + x) 0 ≡ get_or (b ++ (0 ∷ [])) x 0
  unfolding heap_to bytes_of of_stored
  heap-at zero j b h ej st x l = absurd (omega arith)
  heap-at (suc k) j b h ej st x l =
      let f : ℕ → ℕ = λ i. size n shares e i in
      elim (dec_lt j k) [
        | yes m ↦
            let sz : f j ≡ length b + 1 = ap₂ (λ (o : Entry) (s : Bool). of_stored o s (λ (a : List ℕ). length a + 1)) ej st in
            get_or-append ((heap_to n shares e) k) (bytes_of (e k) (stored n shares e k)) 0 (sum_to j f + x) (omega (arith, heap-length k, sum_to-mono f j k m))
            ∙ heap-at k j b m ej st x l
        | no m ↦
            let z : j ≡ k = omega arith in
            let at : sum_to j f + x ≡ length ((heap_to n shares e) k) + x = omega (arith, heap-length k, ap (λ (q : ℕ). sum_to q f) z) in
            ap (λ (q : ℕ). get_or ((heap_to n shares e) k ++ bytes_of (e k) (stored n shares e k)) q 0) at
            ∙ get_or-append-add ((heap_to n shares e) k) (bytes_of (e k) (stored n shares e k)) x 0
            ∙ ap (λ (l : List ℕ). get_or l x 0) (ap (λ (q : ℕ). bytes_of (e q) (stored n shares e q)) (sym z) ∙ ap₂ (λ (o : Entry) (s : Bool). bytes_of o s) ej st)
      ]

  -- ---- where an entry stands, counted from the heap's start

  pub placed : (i : ℕ) (a : List ℕ) → i < n → e i ≡ Some a → Stands ((heap_to n shares e) n) 0 (heap_size n shares e) ((place n shares e) i a) a
  unfolding place heap_size of_stored len
  placed i a h ei =
      let w = held i a h ei in
      let f : ℕ → ℕ = λ i. size n shares e i in
      let j : ℕ = (holder n shares e) i a in
      let b : List ℕ = w.b in
      let t = w.ends in
      let fits : length a ≤ length b = t.fits in
      let lb : len (e j) ≡ length b = ap len w.is in
      let sz : f j ≡ length b + 1 = ap₂ (λ (o : Entry) (s : Bool). of_stored o s (λ (a : List ℕ). length a + 1)) w.is w.kept in
      record {
        low = omega arith;
        high = omega (arith, sum_to-mono f j n w.below);
        bytes = λ k l.
            let x : ℕ = length b - length a + k in
            let at : (place n shares e) i a + k ≡ sum_to j f + x = omega arith in
            let y : ℕ = length a - (k + 1) in
            let iy : length a - (y + 1) ≡ k = omega arith in
            let ix : length b - (y + 1) ≡ x = omega arith in
            ap (λ (q : ℕ). get_or ((heap_to n shares e) n) q 0) at
            ∙ heap-at n j b w.below w.is w.kept x (omega arith)
            ∙ get_or-append b (0 ∷ []) 0 x (omega arith)
            ∙ sym (ap (λ (q : ℕ). get_or b q 0) ix)
            ∙ sym (t.same y (omega arith))
            ∙ ap (λ (q : ℕ). get_or a q 0) iy;
        ends =
            let at : (place n shares e) i a + length a ≡ sum_to j f + length b = omega arith in
            ap (λ (q : ℕ). get_or ((heap_to n shares e) n) q 0) at
            ∙ heap-at n j b w.below w.is w.kept (length b) (omega arith)
            ∙ get_or-append_seam b 0 [] 0;
      }
