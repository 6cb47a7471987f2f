-- Laws of text taken apart. A search is followed along the list, from one place to the next; a text without its blanks is a
-- part of it; pieces are taken off one by one at the first separator.
--     before-le, before-stop, before-next, before-end, before-append     the first byte that passes a test
--     before-rest, before-zero                                           what stands there
--     position-length, before-found                                      the same, as `position` finds it
--     same_refl, same-yes, same-equal, same-unlike, same-no              the same bytes are equal lists
--     same-lengths, same-differ, same-elements, below_more               the same, place by place
--     same-pointwise                                                     the same bytes, as `==` finds it
--     trim-part, value-part                                              what is left stands at that place
--     trim_end-size                                                      how many bytes are left, by the last that is no blank
--     trim_end-less, trim_end-stop, trim_end-none                        the first n bytes, by the last of them
--     trim_end-whole, trim_end-last, trim_end-append, trim-whole         texts with no blank at their ends are left whole
--     field-line, value_line, trim-line                                  a line made of a field, a blank and a value
--     pieces-first, pieces-some, pieces_none                             pieces, by the first separator
--     pieces-cut                                                         pieces, as `split` gives them
--     pieces-lack, pieces-joined, pieces-join, join-pieces               pieces hold no separator; joined and taken apart again
-- Assumes nothing.
use mathlib.Core.Path.{◌≡◌, refl, sym, ap, ap₂, ◌∙◌}
use mathlib.Core.List.{List, [], ◌∷◌, ◌++◌, append-nil}
use mathlib.Core.Bool.{Bool, true, false, cond, not, ◌&&◌}
use Prim.Native.Nat.{ℕ, zero, suc, ◌+◌, ◌-◌, ◌≤◌, ◌<◌}
use native.Mathlib.Numerals.{add-one, one-add}
use native.Mathlib.Decide.{dec_lt}
use native.Mathlib.Omega.{arith}
use borrow.Author.Tests.{eqb-true, eq-eqb, ltb-false, not-true}
use lib.ListN.{length, take, drop, get_or, length-append, drop_of_length-le}
use lib.Seq.{drop-cons, take-suc, take-append_seam, drop-append_seam, length-take-le, ext_get_or}
use lib.Dec.{eqb, ltb}
use Rattle.std.specs.Prelude.{Option, Some, None, unwrap_or}
use Rattle.std.specs.List.{position, position_or_len, slice_split}
use Rattle.std.specs.Cmp.Lexicographic.{pointwise}
use Rattle.std.proofs.lemmas.List.Recursion.{is_position_or_len}
use Rattle.std.proofs.lemmas.List.Sums.{prefix_len-le-length}
use Rattle.octets.specs.Octets.{part}
use Rattle.octets.proofs.ReadLaws.{part-from, take_rest}
use Rattle.octets.proofs.CountingLaws.{clash}
use Rattle.octets.proofs.TestLaws.{and_both}
use Rattle.text.specs.Split.{is_blank, is, before, same, each, blanks, kept, trim_end, trim, field_size, field_of, value_of, value_start}
use Rattle.text.specs.Split.{longer, pieces_by, pieces, join, lacks}

-- ---- the first byte that passes a test

module _ (p : ℕ → Bool) where
  pub before-le : (t : List ℕ) → before p t ≤ length t
  unfolding before
  before-le [] = omega arith
  before-le (b ∷ t) = go (p b) (before-le t)
    where
      go : (d : Bool) → before p t ≤ length t → cond d 0 (suc (before p t)) ≤ suc (length t)
      go true h = omega arith
      go false h = omega arith

  module _ (t : List ℕ) (i : ℕ) where
    pub before-stop : i < length t → p (get_or t i 0) ≡ true → before p (drop i t) ≡ 0
    unfolding before
    before-stop h e = rw (drop-cons t i 0, e)

    pub before-next : i < length t → p (get_or t i 0) ≡ false → before p (drop i t) ≡ suc (before p (drop (i + 1) t))
    unfolding before
    before-next h e = rw (drop-cons t i 0, e, add-one i)

    pub before-end : length t ≤ i → before p (drop i t) ≡ 0
    unfolding before
    before-end h = rw drop_of_length-le

  pub before-append : (x : List ℕ) (b : ℕ) (t : List ℕ) → lacks p x ≡ true → p b ≡ true → before p (x ++ (b ∷ t)) ≡ length x
  unfolding before each
  before-append [] b t h e = rw e
  before-append (a ∷ x) b t h e =
      let both = and_both (not (p a)) (lacks p x) h in
      let here : p a ≡ false = not-true (p a) both.0 in
      rw here (ap suc (before-append x b t both.1 e))

  pub before-rest : (t : List ℕ) → before p (drop (before p t) t) ≡ 0
  unfolding before
  before-rest [] = refl
  before-rest (b ∷ t) = go (p b) refl (before-rest t)
    where
      go : (d : Bool) → p b ≡ d → before p (drop (before p t) t) ≡ 0 → before p (drop (cond d 0 (suc (before p t))) (b ∷ t)) ≡ 0
      go true e h = rw e
      go false e h = h

  pub before-zero : (b : ℕ) (t : List ℕ) → before p (b ∷ t) ≡ 0 → p b ≡ true
  unfolding before
  before-zero b t = go (p b)
    where
      go : (d : Bool) → cond d 0 (suc (before p t)) ≡ 0 → d ≡ true
      go true e = refl
      go false e = absurd (omega arith)

-- `position`, or the length where it finds nothing
pub position-length : {X : Type 0} (p : X → Bool) (xs : List X) (r : Option ℕ) → r ≡ position p xs → unwrap_or r (length xs) ≡ position_or_len p xs
position-length p xs r e = go (ltb (position_or_len p xs) (length xs)) refl
  where
    go : (d : Bool) → ltb (position_or_len p xs) (length xs) ≡ d → unwrap_or r (length xs) ≡ position_or_len p xs
    go true f =
        let found : r ≡ Some (position_or_len p xs) = e ∙ rw f in
        rw found
    go false f =
        let none : r ≡ None = e ∙ rw f in
        rw none (omega (arith, prefix_len-le-length (λ x. not (p x)) xs, ltb-false (position_or_len p xs) (length xs) f))

pub before-found : (p : ℕ → Bool) (t : List ℕ) (r : Option ℕ) → r ≡ position p t
    → (unwrap_or r (length t) ≡ before p t) × (unwrap_or r (length t) ≤ length t)
unfolding before
before-found p t r e =
    let step = λ (x : ℕ) (xs : List ℕ). ap (cond (p x) 0) (sym (one-add (before p xs))) in
    let is : before p t ≡ position_or_len p t = is_position_or_len (before p) p refl step t in
    let found = position-length p t r e in
    (found ∙ sym is, omega (arith, found, is, before-le p t))

-- ---- the same bytes

pub same_refl : (a : List ℕ) → same a a ≡ true
unfolding same
same_refl [] = refl
same_refl (x ∷ xs) = rw (eq-eqb x x refl) (same_refl xs)

pub same-yes : (a b : List ℕ) → a ≡ b → same a b ≡ true
same-yes a b e = rw e (same_refl b)

pub same-equal : (a b : List ℕ) → same a b ≡ true → a ≡ b
unfolding same
same-equal [] [] e = refl
same-equal [] (y ∷ ys) e = clash e refl
same-equal (x ∷ xs) [] e = clash e refl
same-equal (x ∷ xs) (y ∷ ys) e =
    let both = and_both (eqb x y) (same xs ys) e in
    ap₂ ◌∷◌ (eqb-true x y both.0) (same-equal xs ys both.1)

pub same-unlike : (a b : List ℕ) → (a ≡ b → ⊥) → same a b ≡ false
same-unlike a b unlike = go (same a b) refl
  where
    go : (d : Bool) → same a b ≡ d → d ≡ false
    go true e = absurd (unlike (same-equal a b e))
    go false e = refl

pub same-no : (a b : List ℕ) → same a b ≡ false → a ≡ b → ⊥
same-no a b e q = clash (same-yes a b q) e

-- a loop that compares: lists of other lengths, lists that differ at i, lists with the same elements
pub same-lengths : (a b : List ℕ) → (length a ≡ length b → ⊥) → false ≡ same a b
same-lengths a b unlike = sym (same-unlike a b (λ e. unlike (ap length e)))

pub same-differ : (a b : List ℕ) (i : ℕ) → (get_or a i 0 ≡ get_or b i 0 → ⊥) → false ≡ same a b
same-differ a b i unlike = sym (same-unlike a b (λ e. unlike (ap (λ (l : List ℕ). get_or l i 0) e)))

pub same-elements : (a b : List ℕ) → length a ≡ length b → ((i : ℕ) → i < length a → get_or a i 0 ≡ get_or b i 0) → true ≡ same a b
same-elements a b e h = sym (same-yes a b (ext_get_or 0 a b e h))

-- one place more is compared
pub below_more : (a b : List ℕ) (i : ℕ) → ((j : ℕ) → j < i → get_or a j 0 ≡ get_or b j 0) → get_or a i 0 ≡ get_or b i 0
    → (j : ℕ) → j < i + 1 → get_or a j 0 ≡ get_or b j 0
below_more a b i h e j l = go (dec_lt j i)
  where
    go : Dec (j < i) → get_or a j 0 ≡ get_or b j 0
    go (yes m) = h j m
    go (no m) = let z : j ≡ i = omega arith in rw z e

-- `==` of two slices
pub same-pointwise : (a b : List ℕ) → pointwise eqb a b ≡ same a b
unfolding same
same-pointwise [] [] = refl
same-pointwise [] (y ∷ ys) = refl
same-pointwise (x ∷ xs) [] = refl
same-pointwise (x ∷ xs) (y ∷ ys) = ap (λ (d : Bool). eqb x y && d) (same-pointwise xs ys)

-- ---- without the blanks at the end

kept-none : (b : ℕ) (t : List ℕ) → is_blank b ≡ true → 0 ≡ length t → 0 ≡ length (kept b t)
kept-none b [] e h = rw e
kept-none b (x ∷ xs) e h = absurd (omega arith)

kept-more : (b : ℕ) (t : List ℕ) → (0 ≡ length t → is_blank b ≡ false) → suc (length t) ≡ length (kept b t)
kept-more b [] e = rw (e refl)
kept-more b (x ∷ xs) e = refl

-- n bytes are left, where all from n on are blanks and the one before n is none
pub trim_end-size : (t : List ℕ) (n : ℕ) → n ≤ length t → ((k : ℕ) → n ≤ k → k < length t → is_blank (get_or t k 0) ≡ true)
    → ((m : ℕ) → n ≡ suc m → is_blank (get_or t m 0) ≡ false) → n ≡ length (trim_end t)
unfolding trim_end
trim_end-size [] n h blank ends = omega arith
trim_end-size (b ∷ t) zero h blank ends =
    kept-none b (trim_end t) (blank 0 (omega arith) (omega arith))
    (trim_end-size t 0 (omega arith) (λ k l m. blank (suc k) (omega arith) (omega arith)) (λ m e. absurd (omega arith)))
trim_end-size (b ∷ t) (suc n) h blank ends =
    let rest : n ≡ length (trim_end t) = trim_end-size t n (omega arith) (λ k l m. blank (suc k) (omega arith) (omega arith)) (λ m e. ends (suc m) (ap suc e)) in
    ap suc rest ∙ kept-more b (trim_end t) (λ e. ends 0 (ap suc (rest ∙ sym e)))

-- one blank less at the end, and a last byte that is none
trim_end-blank : (x : List ℕ) (b : ℕ) → is_blank b ≡ true → trim_end (x ++ (b ∷ [])) ≡ trim_end x
unfolding trim_end
trim_end-blank [] b e = rw e
trim_end-blank (a ∷ x) b e = ap (kept a) (trim_end-blank x b e)

kept-last : (a : ℕ) (x : List ℕ) (b : ℕ) → kept a (x ++ (b ∷ [])) ≡ a ∷ (x ++ (b ∷ []))
kept-last a [] b = refl
kept-last a (y ∷ ys) b = refl

pub trim_end-last : (x : List ℕ) (b : ℕ) → is_blank b ≡ false → trim_end (x ++ (b ∷ [])) ≡ x ++ (b ∷ [])
unfolding trim_end
trim_end-last [] b e = rw e
trim_end-last (a ∷ x) b e = ap (kept a) (trim_end-last x b e) ∙ kept-last a x b

-- the first n bytes, by the last of them
module _ (s : List ℕ) (n : ℕ) (some : 0 < n) (inside : n ≤ length s) where
  take_last : take n s ≡ take (n - 1) s ++ (get_or s (n - 1) 0 ∷ [])
  take_last =
      let e : n ≡ suc (n - 1) = omega arith in
      ap (λ (k : ℕ). take k s) e ∙ take-suc s (n - 1) 0 (omega arith)

  pub trim_end-less : is_blank (get_or s (n - 1) 0) ≡ true → trim_end (take n s) ≡ trim_end (take (n - 1) s)
  trim_end-less e = ap trim_end take_last ∙ trim_end-blank (take (n - 1) s) (get_or s (n - 1) 0) e

  pub trim_end-stop : is_blank (get_or s (n - 1) 0) ≡ false → length (trim_end (take n s)) ≡ n
  trim_end-stop e =
      ap length (ap trim_end take_last ∙ trim_end-last (take (n - 1) s) (get_or s (n - 1) 0) e ∙ sym take_last)
      ∙ length-take-le n s inside

pub trim_end-none : (s : List ℕ) → length (trim_end (take 0 s)) ≡ 0
unfolding trim_end
trim_end-none s = refl

-- what is left stands at the front
kept-alone : (d : Bool) (b : ℕ) (t : List ℕ) → take (length (cond d [] (b ∷ []))) (b ∷ t) ≡ cond d [] (b ∷ [])
kept-alone true b t = refl
kept-alone false b t = refl

trim_end-front : (t : List ℕ) → take (length (trim_end t)) t ≡ trim_end t
unfolding trim_end
trim_end-front [] = refl
trim_end-front (b ∷ t) = go (trim_end t) (trim_end-front t)
  where
    go : (u : List ℕ) → take (length u) t ≡ u → take (length (kept b u)) (b ∷ t) ≡ kept b u
    go [] e = kept-alone (is_blank b) b t
    go (x ∷ xs) e = ap (λ (l : List ℕ). b ∷ l) e

-- a text without blanks at its end: none at all, or none at the end of its second part
pub kept-some : (b : ℕ) (t : List ℕ) → 0 < length t → kept b t ≡ b ∷ t
kept-some b [] h = absurd (omega arith)
kept-some b (x ∷ xs) h = refl

kept-other : (b : ℕ) (t : List ℕ) → is_blank b ≡ false → kept b t ≡ b ∷ t
kept-other b [] e = rw e
kept-other b (x ∷ xs) e = refl

pub trim_end-whole : (w : List ℕ) → lacks is_blank w ≡ true → trim_end w ≡ w
unfolding trim_end each
trim_end-whole [] h = refl
trim_end-whole (b ∷ w) h =
    let both = and_both (not (is_blank b)) (lacks is_blank w) h in
    ap (kept b) (trim_end-whole w both.1) ∙ kept-other b w (not-true (is_blank b) both.0)

pub trim_end-append : (x y : List ℕ) → 0 < length y → trim_end y ≡ y → trim_end (x ++ y) ≡ x ++ y
unfolding trim_end
trim_end-append [] y some e = e
trim_end-append (a ∷ x) y some e = ap (kept a) (trim_end-append x y some e) ∙ kept-some a (x ++ y) (omega (arith, length-append x y))

-- ---- without the blanks at both ends

pub trim-part : (t : List ℕ) → part t (blanks t) (length (trim t)) ≡ trim t
unfolding part trim
trim-part t = trim_end-front (drop (blanks t) t)

pub value-part : (line : List ℕ) → part line (value_start line) (length (value_of line)) ≡ value_of line
unfolding value_of value_start
value-part line =
    let n = field_size line in
    sym (part-from line n (blanks (drop n line)) (length (trim (drop n line)))) ∙ trim-part (drop n line)

-- the same, where the rest of the text is lent from place n on
pub trim-rest : (t : List ℕ) (n : ℕ) → n ≡ blanks t → length (trim_end (take (length t - n) (drop n t))) ≡ length (trim t)
unfolding trim
trim-rest t n e = rw (take_rest n t, e)

module _ (line : List ℕ) (n : ℕ) (size : n ≡ field_size line) where
  pub value-rest : trim (take (length line - n) (drop n line)) ≡ value_of line
  unfolding value_of
  value-rest = rw (take_rest n line, size)

  pub value-place : n + blanks (take (length line - n) (drop n line)) ≡ value_start line
  unfolding value_start
  value-place = rw (take_rest n line, size)

-- a text with no blank at its ends is left whole
pub trim-whole : (t : List ℕ) → blanks t ≡ 0 → trim_end t ≡ t → trim t ≡ t
unfolding trim
trim-whole t e f = rw e f

pub trim-blank : (b : ℕ) (t : List ℕ) → is_blank b ≡ true → trim (b ∷ t) ≡ trim t
unfolding trim before
trim-blank b t e = rw e

-- ---- a line made of a field, a blank and a value

pub blanks-append : (x y : List ℕ) → 0 < length x → lacks is_blank x ≡ true → blanks (x ++ y) ≡ 0
unfolding before each
blanks-append [] y some h = absurd (omega arith)
blanks-append (b ∷ x) y some h = rw (not-true (is_blank b) (and_both (not (is_blank b)) (lacks is_blank x) h).0)

module _ (f : List ℕ) (b : ℕ) (v : List ℕ) (whole : lacks is_blank f ≡ true) (blank : is_blank b ≡ true) where
  pub field-line : field_of (f ++ (b ∷ v)) ≡ f
  unfolding field_of
  field-line = rw (before-append is_blank f b v whole blank) (take-append_seam f (b ∷ v))

  -- with no blank at the value's end the line is left whole
  pub trim-line : 0 < length f → 0 < length v → trim_end v ≡ v → trim (f ++ (b ∷ v)) ≡ f ++ (b ∷ v)
  unfolding trim_end
  trim-line some more e =
      trim-whole (f ++ (b ∷ v)) (blanks-append f (b ∷ v) some whole)
      (trim_end-append f (b ∷ v) (omega arith) (ap (kept b) e ∙ kept-some b v more))

  pub value_line : value_of (f ++ (b ∷ v)) ≡ trim v
  unfolding value_of
  value_line = rw (before-append is_blank f b v whole blank, drop-append_seam f (b ∷ v)) (trim-blank b v blank)

-- ---- pieces

-- the pieces behind a separator at the front; none where there is no byte
unfoldable pub after : (ℕ → Bool) → List ℕ → List (List ℕ)
after p [] = []
after p (b ∷ t) = pieces_by p t

module _ (p : ℕ → Bool) where
  pieces-cons : (d : Bool) (b : ℕ) (t : List ℕ) → pieces_by p t ≡ take (before p t) t ∷ after p (drop (before p t) t)
      → let n = cond d 0 (suc (before p t)) in
      cond d ([] ∷ pieces_by p t) (longer b (pieces_by p t)) ≡ take n (b ∷ t) ∷ after p (drop n (b ∷ t))
  unfolding after
  pieces-cons true b t e = refl
  pieces-cons false b t e = rw e

  pieces-split : (t : List ℕ) → pieces_by p t ≡ take (before p t) t ∷ after p (drop (before p t) t)
  unfolding pieces_by before after
  pieces-split [] = refl
  pieces-split (b ∷ t) = pieces-cons (p b) b t (pieces-split t)

  -- `split` at the bytes that pass gives these pieces
  pub pieces-cut : (t : List ℕ) → slice_split p t ≡ pieces_by p t
  unfolding pieces_by
  pieces-cut [] = refl
  pieces-cut (b ∷ t) = rw (pieces-cut t, pieces-split t)

  -- the first piece ends at n, and more follow, or it is the last
  module _ (t : List ℕ) (n : ℕ) (first : n ≡ before p t) where
    pub pieces-first : pieces_by p t ≡ take n t ∷ after p (drop n t)
    pieces-first = rw first (pieces-split t)

    pub pieces-some : n < length t → pieces_by p t ≡ take n t ∷ pieces_by p (drop (n + 1) t)
    unfolding after
    pieces-some h =
        let behind : after p (drop n t) ≡ pieces_by p (drop (n + 1) t) = rw (drop-cons t n 0 h, add-one n) in
        pieces-first ∙ ap (λ (ls : List (List ℕ)). take n t ∷ ls) behind

    pub pieces_none : length t ≤ n → pieces_by p t ≡ take n t ∷ []
    unfolding after
    pieces_none h =
        let behind : after p (drop n t) ≡ [] = rw (drop_of_length-le t h) in
        pieces-first ∙ ap (λ (ls : List (List ℕ)). take n t ∷ ls) behind

  -- a piece in front of the first
  pub pieces-append : (x t l : List ℕ) (ls : List (List ℕ)) → lacks p x ≡ true → pieces_by p t ≡ l ∷ ls → pieces_by p (x ++ t) ≡ (x ++ l) ∷ ls
  unfolding pieces_by each
  pieces-append [] t l ls h e = e
  pieces-append (b ∷ x) t l ls h e =
      let both = and_both (not (p b)) (lacks p x) h in
      let here : p b ≡ false = not-true (p b) both.0 in
      rw (here, pieces-append x t l ls both.1 e)

-- no piece holds a separator
lacks-cons : (p : ℕ → Bool) (d : Bool) (b : ℕ) (l : List ℕ) (ls : List (List ℕ)) → p b ≡ d → each (lacks p) (l ∷ ls) ≡ true
    → each (lacks p) (cond d ([] ∷ (l ∷ ls)) (longer b (l ∷ ls))) ≡ true
unfolding each
lacks-cons p true b l ls e h = h
lacks-cons p false b l ls e h = rw e h

pub pieces-lack : (p : ℕ → Bool) (t : List ℕ) → each (lacks p) (pieces_by p t) ≡ true
unfolding pieces_by each
pieces-lack p [] = refl
pieces-lack p (b ∷ t) =
    let e = pieces-split p t in
    rw e (lacks-cons p (p b) b _ _ refl (rw e at (pieces-lack p t)))

-- pieces that hold no separator, joined and taken apart again; `sep` is one of the separators
pub pieces-joined : (p : ℕ → Bool) (sep : ℕ) → p sep ≡ true → (x : List ℕ) (xs : List (List ℕ)) → each (lacks p) (x ∷ xs) ≡ true
    → pieces_by p (join sep (x ∷ xs)) ≡ x ∷ xs
unfolding pieces_by join each
pieces-joined p sep e x [] h =
    let here = (and_both (lacks p x) true h).0 in
    ap (pieces_by p) (sym (append-nil x)) ∙ pieces-append p x [] [] [] here refl ∙ ap (λ (l : List ℕ). l ∷ []) (append-nil x)
pieces-joined p sep e x (y ∷ ys) h =
    let both = and_both (lacks p x) (each (lacks p) (y ∷ ys)) h in
    let rest : pieces_by p (sep ∷ join sep (y ∷ ys)) ≡ [] ∷ (y ∷ ys) = rw (e, pieces-joined p sep e y ys both.1) in
    pieces-append p x (sep ∷ join sep (y ∷ ys)) [] (y ∷ ys) both.0 rest ∙ ap (λ (l : List ℕ). l ∷ (y ∷ ys)) (append-nil x)

pub pieces-join : (sep : ℕ) (x : List ℕ) (xs : List (List ℕ)) → each (lacks (is sep)) (x ∷ xs) ≡ true → pieces sep (join sep (x ∷ xs)) ≡ x ∷ xs
pieces-join sep x xs h = pieces-joined (is sep) sep (eq-eqb sep sep refl) x xs h

join-longer : (sep b : ℕ) (l : List ℕ) (ls : List (List ℕ)) → join sep ((b ∷ l) ∷ ls) ≡ b ∷ join sep (l ∷ ls)
unfolding join
join-longer sep b l [] = refl
join-longer sep b l (m ∷ ms) = refl

join-cons : (sep b : ℕ) (d : Bool) (l : List ℕ) (ls : List (List ℕ)) (t : List ℕ) → eqb b sep ≡ d → join sep (l ∷ ls) ≡ t
    → join sep (cond d ([] ∷ (l ∷ ls)) (longer b (l ∷ ls))) ≡ b ∷ t
unfolding join
join-cons sep b true l ls t e h = ap₂ ◌∷◌ (sym (eqb-true b sep e)) h
join-cons sep b false l ls t e h = join-longer sep b l ls ∙ ap (λ (u : List ℕ). b ∷ u) h

pub join-pieces : (sep : ℕ) (t : List ℕ) → join sep (pieces sep t) ≡ t
unfolding pieces_by join
join-pieces sep [] = refl
join-pieces sep (b ∷ t) =
    let e = pieces-split (is sep) t in
    rw e (join-cons sep b (eqb b sep) _ _ t refl (rw e at (join-pieces sep t)))
