-- What is written is read back: a word's number, where no word of the list stands twice, and a set of words, where besides each
-- word has a byte, holds no blank, and is not `none`. A set is followed from its lowest bit up.
--     number_at      the number of word n is n
--     set_back       the set that is put is the set that is read
-- Assumes nothing.
use mathlib.Core.Path.{◌≡◌, refl, sym, ap, ap₂, ◌∙◌}
use mathlib.Core.List.{List, [], ◌∷◌, append-nil}
use mathlib.Core.Bool.{Bool, true, false, cond, not, ◌&&◌}
use Prim.Native.Nat.{ℕ, zero, suc, ◌+◌, ◌*◌, ◌/◌, ◌%◌, ◌^◌, ◌≤◌, ◌<◌}
use native.Mathlib.Nat.{mul-add, mul_assoc, mul-one, pow-suc, div-eq_of_lt}
use native.Mathlib.Numerals.{add-one}
use native.Mathlib.Omega.{arith}
use borrow.Author.Tests.{eqb-true, eqb-false, leb-true, ltb-true, not-true}
use lib.ListN.{length, drop, get_or, length-append, drop_of_length-le}
use lib.Dec.{eqb, leb, ltb}
use Rattle.octets.specs.Counting.{tabulate}
use Rattle.octets.proofs.CountingLaws.{clash}
use Rattle.octets.proofs.TestLaws.{and_both}
use Rattle.text.specs.Split.{is_blank, before, same, each, blanks, kept, trim_end, trim, pieces_by, join, lacks}
use Rattle.text.specs.Words.{words_of, word_number, word_count, word_at, place_of, bit, non_empty, tokens, with_words, no_word, read_word_set}
use Rattle.text.specs.Words.{chosen, set_text, word_set_text, distinct, good_word, good_list}
use Rattle.std.specs.Prelude.{Some}
use Rattle.text.proofs.SplitLaws.{same_refl, same-yes, same-unlike, kept-some, trim_end-whole, trim_end-append, trim-whole, blanks-append, pieces-joined}
use Rattle.text.proofs.WordsLaws.{non_empty-cons, with-next, chosen-cons}

-- ---- tests of every one

module _ {ℓ} {A : Type ℓ} (p : A → Bool) where
  each_at : (xs : List A) (n : ℕ) (d : A) → each p xs ≡ true → n < length xs → p (get_or xs n d) ≡ true
  unfolding each
  each_at [] n d e h = absurd (omega arith)
  each_at (x ∷ xs) zero d e h = (and_both (p x) (each p xs) e).0
  each_at (x ∷ xs) (suc n) d e h = each_at xs n d (and_both (p x) (each p xs) e).1 (omega arith)

  each-also : (q : A → Bool) → ((x : A) → p x ≡ true → q x ≡ true) → (xs : List A) → each p xs ≡ true → each q xs ≡ true
  unfolding each
  each-also q h [] e = refl
  each-also q h (x ∷ xs) e =
      let both = and_both (p x) (each p xs) e in
      rw (h x both.0) (each-also q h xs both.1)

each_chosen : (p : List ℕ → Bool) (ws : List (List ℕ)) (v : ℕ) → each p ws ≡ true → each p (chosen ws v) ≡ true
unfolding each chosen
each_chosen p [] v e = refl
each_chosen p (w ∷ ws) v e = go (eqb (v % 2) 1) (and_both (p w) (each p ws) e).0 (each_chosen p ws (v / 2) (and_both (p w) (each p ws) e).1)
  where
    go : (d : Bool) → p w ≡ true → each p (chosen ws (v / 2)) ≡ true → each p (cond d (w ∷ chosen ws (v / 2)) (chosen ws (v / 2))) ≡ true
    go true here rest = rw here rest
    go false here rest = rest

-- ---- a word's number

place_at : (ws : List (List ℕ)) (n : ℕ) → distinct ws ≡ true → n < length ws → place_of (get_or ws n []) ws ≡ n
unfolding distinct place_of
place_at [] n e h = absurd (omega arith)
place_at (w ∷ ws) zero e h = rw (same_refl w)
place_at (w ∷ ws) (suc n) e h =
    let both = and_both (each (λ (x : List ℕ). not (same w x)) ws) (distinct ws) e in
    let other = not-true (same w (get_or ws n [])) (each_at (λ (x : List ℕ). not (same w x)) ws n [] both.0 (omega arith)) in
    rw other (ap suc (place_at ws n both.1 (omega arith)))

pub number_at : (list : List ℕ) (n : ℕ) → distinct (words_of list) ≡ true → n < word_count list → word_number list (word_at list n) ≡ n
number_at list n e h = place_at (words_of list) n e h

-- ---- the words of a set, added one by one

-- bit k and the bits above it
power : (k : ℕ) → 2 ^ (k + 1) ≡ 2 ^ k * 2
power k = rw (add-one k) (pow-suc 2 k)

doubled : (k y : ℕ) → 2 ^ k * (2 * y) ≡ 2 ^ (k + 1) * y
doubled k y = sym (rw (power k) (mul_assoc (2 ^ k) 2 y))

bits-even : (k x : ℕ) → (x % 2 ≡ 1 → ⊥) → 2 ^ k * x ≡ 2 ^ (k + 1) * (x / 2)
bits-even k x even =
    let e : x ≡ 2 * (x / 2) = omega arith in
    ap (λ (n : ℕ). 2 ^ k * n) e ∙ doubled k (x / 2)

bits-odd : (k x : ℕ) → x % 2 ≡ 1 → 2 ^ k * x ≡ 2 ^ (k + 1) * (x / 2) + 2 ^ k
bits-odd k x odd =
    let e : x ≡ 2 * (x / 2) + 1 = omega arith in
    ap (λ (n : ℕ). 2 ^ k * n) e ∙ mul-add (2 ^ k) (2 * (x / 2)) 1 ∙ ap₂ ◌+◌ (doubled k (x / 2)) (mul-one (2 ^ k))

module _ (list : List ℕ) (apart : distinct (words_of list) ≡ true) (few : word_count list ≤ 8) where
  -- the words behind word k make the set that they should, whatever stands before them
  Adds : ℕ → ℕ → Type 0
  Adds k x = (u : ℕ) → u < 2 ^ k → with_words list u (chosen (drop k (words_of list)) x) ≡ Some (u + 2 ^ k * x)

  add-word : (k x : ℕ) → k < word_count list → Adds (k + 1) (x / 2) → (u : ℕ) → u < 2 ^ k → (d : Bool) → eqb (x % 2) 1 ≡ d
      → let rest = chosen (drop (k + 1) (words_of list)) (x / 2) in
      with_words list u (cond d (word_at list k ∷ rest) rest) ≡ Some (u + 2 ^ k * x)
  unfolding Adds
  add-word k x more adds u l true e =
      let free : eqb (bit k u) 1 ≡ false = rw (div-eq_of_lt l) in
      sym (with-next list u _ (word_at list k) _ refl k (sym (number_at list k apart more)) more (omega arith) free)
      ∙ adds (u + 2 ^ k) (omega (arith, power k))
      ∙ ap Some (omega (arith, bits-odd k x (eqb-true (x % 2) 1 e)))
  add-word k x more adds u l false e =
      adds u (omega (arith, power k)) ∙ ap Some (omega (arith, bits-even k x (eqb-false (x % 2) 1 e)))

  -- m words from word k on are left
  add-chosen : (m k x : ℕ) → k + m ≡ word_count list → x < 2 ^ m → Adds k x
  unfolding Adds with_words chosen
  add-chosen zero k x e h u l =
      let none : x ≡ 0 = omega arith in
      let end : length (words_of list) ≤ k = omega arith in
      rw (drop_of_length-le (words_of list) end, none) (ap Some (omega arith))
  add-chosen (suc m) k x e h u l =
      let more : k < length (words_of list) = omega arith in
      let half : x / 2 < 2 ^ m = omega (arith, pow-suc 2 m) in
      rw (chosen-cons (words_of list) k x more)
      (add-word k x more (add-chosen m (k + 1) (x / 2) (omega arith) half) u l (eqb (x % 2) 1) refl)

-- ---- the text of a set, read as words

good : (w : List ℕ) → good_word w ≡ true → (0 < length w) × (lacks is_blank w ≡ true) × (same w no_word ≡ false)
unfolding good_word
good w e =
    let last = and_both (ltb 0 (length w) && lacks is_blank w) (not (same w no_word)) e in
    let both = and_both (ltb 0 (length w)) (lacks is_blank w) last.0 in
    (ltb-true 0 (length w) both.0, both.1, not-true (same w no_word) last.1)

join-some : (w : List ℕ) (ws : List (List ℕ)) → 0 < length w → 0 < length (join 32 (w ∷ ws))
unfolding join
join-some w [] h = h
join-some w (x ∷ xs) h = omega (arith, length-append w (32 ∷ join 32 (x ∷ xs)))

non_empty-all : (ws : List (List ℕ)) → each good_word ws ≡ true → non_empty ws ≡ ws
unfolding non_empty each
non_empty-all [] e = refl
non_empty-all (w ∷ ws) e =
    let both = and_both (good_word w) (each good_word ws) e in
    non_empty-cons w ws (good w both.0).0 ∙ ap (λ (ls : List (List ℕ)). w ∷ ls) (non_empty-all ws both.1)

trim_end-join : (w : List ℕ) (ws : List (List ℕ)) → each good_word (w ∷ ws) ≡ true → trim_end (join 32 (w ∷ ws)) ≡ join 32 (w ∷ ws)
unfolding trim_end join each
trim_end-join w [] e = trim_end-whole w (good w (and_both (good_word w) true e).0).1
trim_end-join w (x ∷ xs) e =
    let later = (and_both (good_word w) (each good_word (x ∷ xs)) e).1 in
    let first = (good x (and_both (good_word x) (each good_word xs) later).0).0 in
    trim_end-append w (32 ∷ join 32 (x ∷ xs)) (omega arith) (ap (kept 32) (trim_end-join x xs later) ∙ kept-some 32 (join 32 (x ∷ xs)) (join-some x xs first))

blanks-join : (w : List ℕ) (ws : List (List ℕ)) → 0 < length w → lacks is_blank w ≡ true → blanks (join 32 (w ∷ ws)) ≡ 0
unfolding join
blanks-join w [] some h = ap blanks (sym (append-nil w)) ∙ blanks-append w [] some h
blanks-join w (x ∷ xs) some h = blanks-append w (32 ∷ join 32 (x ∷ xs)) some h

tokens-none-word : tokens no_word ≡ no_word ∷ []
unfolding pieces_by non_empty is_blank tabulate
tokens-none-word = refl

module _ (w : List ℕ) (ws : List (List ℕ)) (all : each good_word (w ∷ ws) ≡ true) where
  first_good : (0 < length w) × (lacks is_blank w ≡ true) × (same w no_word ≡ false)
  unfolding each
  first_good = good w (and_both (good_word w) (each good_word ws) all).0

  trim-join : trim (join 32 (w ∷ ws)) ≡ join 32 (w ∷ ws)
  trim-join = trim-whole (join 32 (w ∷ ws)) (blanks-join w ws first_good.0 first_good.1) (trim_end-join w ws all)

  tokens-join : tokens (join 32 (w ∷ ws)) ≡ w ∷ ws
  unfolding is_blank
  tokens-join =
      ap non_empty (pieces-joined is_blank 32 refl w ws (each-also good_word (lacks is_blank) (λ x h. (good x h).1) (w ∷ ws) all))
      ∙ non_empty-all (w ∷ ws) all

  not_none : same (join 32 (w ∷ ws)) no_word ≡ false
  not_none =
      same-unlike (join 32 (w ∷ ws)) no_word
      (λ e.
      let one : w ∷ ws ≡ no_word ∷ [] = sym tokens-join ∙ ap tokens e ∙ tokens-none-word in
      let word : w ≡ no_word = cc in
      clash (same-yes w no_word word) first_good.2)

read-text : (list : List ℕ) (cs : List (List ℕ)) → each good_word cs ≡ true → read_word_set list (set_text cs) ≡ with_words list 0 cs
unfolding read_word_set set_text with_words same trim trim_end before is_blank tabulate
read-text list [] all = refl
read-text list (w ∷ ws) all = rw (trim-join w ws all, not_none w ws all, tokens-join w ws all)

-- ---- what is put is read

pub set_back : (list : List ℕ) (v : ℕ) → good_list list ≡ true → v < 2 ^ word_count list → read_word_set list (word_set_text list v) ≡ Some v
unfolding good_list word_set_text Adds
set_back list v e h =
    let last = and_both (leb (word_count list) 8 && each good_word (words_of list)) (distinct (words_of list)) e in
    let both = and_both (leb (word_count list) 8) (each good_word (words_of list)) last.0 in
    let few = leb-true (word_count list) 8 both.0 in
    read-text list (chosen (words_of list) v) (each_chosen good_word (words_of list) v both.1)
    ∙ add-chosen list last.1 few (word_count list) 0 v (omega arith) h 0 (omega arith)
    ∙ ap Some (omega arith)
