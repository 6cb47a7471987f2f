-- Laws of lists of words: `split` gives them, and the first ends at the first space, with the rest of the list behind it. The
-- words of a text with blanks between are those of its pieces that are not empty. A set of words is read and put word by word.
--     words_cut, count-most                               the words of a list, as `split` gives them; how many at most
--     number-first, number-last, number-next              a word's number, by the first word
--     count-last, count_next                              how many words there are, by the first
--     at_first, at_last, at_next                          the word of a number, by the first
--     number-found, number-before, number-most            a word's number, by its place and by the words before it
--     word-shown                                          the word of a number
--     non_empty-cons, tokens_none, tokens-next            the words of a text with blanks between
--     with-unknown, with-high, with-twice, with-next      a word added to a set
--     with_none, with-empty, with-stop, with-more         no word; the pieces of a text added, one by one
--     set-none, set-no-words, set_words                   the set that is written in a text
--     listed-end, listed-skip, listed-word, listed-text   the words of a set as text
-- Assumes nothing.
use mathlib.Core.Path.{◌≡◌, refl, sym, ap, ◌∙◌}
use mathlib.Core.List.{List, [], ◌∷◌, ◌++◌, append-nil}
use mathlib.Core.Bool.{Bool, true, false, cond, not, ◌||◌, or-true}
use Prim.Native.Nat.{ℕ, zero, suc, ◌+◌, ◌-◌, ◌*◌, ◌/◌, ◌%◌, ◌^◌, ◌≤◌, ◌<◌}
use native.Mathlib.Nat.{one-mul, pow-suc, pow-succ', div-div-eq-div-mul}
use native.Mathlib.Numerals.{add-one, one-add}
use native.Mathlib.Omega.{arith}
use borrow.Author.Tests.{le-leb, lt-leb, not-true}
use lib.ListN.{length, take, drop, get_or, drop_of_length-le}
use lib.Seq.{drop-cons, length-take-le}
use lib.Dec.{eqb, leb}
use lib.Pow.{shl_exact}
use Rattle.octets.proofs.CountingLaws.{clash}
use Rattle.octets.proofs.ReadLaws.{take_rest}
use Rattle.text.specs.Split.{is_blank, blank_is, is, before, index_of, same, blanks, trim, field_size, pieces_by, join}
use Rattle.text.specs.Words.{words_of, word_number, word_count, word_at, place_of, bit, non_empty, tokens, with_words, no_word, some_words, read_word_set}
use Rattle.text.specs.Words.{chosen, set_text, spaced, listed}
use Rattle.std.specs.Prelude.{Option, Some, None, unwrap_or, option_map, slice_get}
use Rattle.std.specs.Borrow.{Bor}
use Rattle.std.specs.List.{position, position_or_len, slice_split, take_while}
use Rattle.std.proofs.lemmas.List.Folds.{length-prefix_len}
use Rattle.std.proofs.lemmas.Option.{unwrap_or-slice_get, none-some, same_Some}
use Rattle.std.proofs.lemmas.List.Recursion.{is_position_or_len}
use Rattle.std.proofs.lemmas.List.Splits.{length-slice_split}
use Rattle.std.proofs.lemmas.List.Sums.{prefix_len-le-length, count_by-le-length}
use Rattle.text.proofs.SplitLaws.{before-le, before-rest, before-zero, position-length, after, pieces-first, pieces-some, pieces_none, pieces-cut}

-- ---- the words of a list, one by one

-- the first word of the list ends at n
module _ (list : List ℕ) (n : ℕ) (end : n ≡ index_of 32 list) where
  words-first : words_of list ≡ take n list ∷ after (is 32) (drop n list)
  words-first = pieces-first (is 32) list n end

  words_last : length list ≤ n → words_of list ≡ take n list ∷ []
  words_last h = pieces_none (is 32) list n end h

  words-next : n < length list → words_of list ≡ take n list ∷ words_of (drop (n + 1) list)
  words-next h = pieces-some (is 32) list n end h

  pub number-first : (word : List ℕ) → same (take n list) word ≡ true → 0 ≡ word_number list word
  unfolding place_of
  number-first word e = rw (words-first, e)

  pub number-last : (word : List ℕ) → same (take n list) word ≡ false → length list ≤ n → 1 ≡ word_number list word
  unfolding place_of
  number-last word e h = rw (words_last h, e)

  pub number-next : (word : List ℕ) → same (take n list) word ≡ false → n < length list → word_number list word ≡ suc (word_number (drop (n + 1) list) word)
  unfolding place_of
  number-next word e h = rw (words-next h, e)

  pub count-last : length list ≤ n → 1 ≡ word_count list
  count-last h = rw (words_last h)

  pub count_next : n < length list → word_count list ≡ suc (word_count (drop (n + 1) list))
  count_next h = rw (words-next h)

  pub at_first : take n list ≡ word_at list 0
  at_first = rw words-first

  pub at_last : (k : ℕ) → length list ≤ n → (k ≡ 0 → ⊥) → [] ≡ word_at list k
  at_last zero h some = absurd (some refl)
  at_last (suc m) h some = rw (words_last h)

  pub at_next : (k : ℕ) → n < length list → (k ≡ 0 → ⊥) → word_at (drop (n + 1) list) (k - 1) ≡ word_at list k
  at_next zero h some = absurd (some refl)
  at_next (suc m) h some =
      let e : suc m - 1 ≡ m = omega arith in
      rw (e, words-next h)

-- ---- the words of a list, as `split` gives them

pub words_cut : (list : List ℕ) → slice_split (is 32) list ≡ words_of list
words_cut list = pieces-cut (is 32) list

pub count-most : (list : List ℕ) → word_count list ≤ length list + 1
count-most list = omega (arith, ap length (words_cut list), length-slice_split (is 32) list, count_by-le-length (is 32) list)

module _ (list word : List ℕ) where
  number-place : word_number list word ≡ position_or_len (λ w. same w word) (words_of list)
  unfolding place_of
  number-place = is_position_or_len (place_of word) (λ w. same w word) refl (λ w ws. ap (cond (same w word) 0) (sym (one-add (place_of word ws)))) (words_of list)

  pub number-most : word_number list word ≤ length list + 1
  number-most = omega (arith, number-place, prefix_len-le-length (λ w. not (same w word)) (words_of list), count-most list)

  -- its number is the place that `position` finds, or how many words there are
  pub number-found : (r : Option ℕ) → r ≡ position (λ w. same w word) (slice_split (is 32) list) → unwrap_or r (word_count list) ≡ word_number list word
  number-found r e = position-length (λ w. same w word) (words_of list) r (rw words_cut at e) ∙ sym number-place

  -- its number is how many words `split` gives before it
  pub number-before : length (take_while (λ w. not (same w word)) (slice_split (is 32) list)) ≡ word_number list word
  number-before = rw words_cut (length-prefix_len (λ w. not (same w word)) (words_of list)) ∙ sym number-place

-- the word that `nth` shows, or one of no bytes
pub word-shown : (list : List ℕ) (n : ℕ) (r : Option (Bor (List ℕ))) (none : Bor (List ℕ)) → none.now ≡ []
    → option_map (λ w. w.now) r ≡ slice_get (slice_split (is 32) list) n → (unwrap_or r none).now ≡ word_at list n
word-shown list n r none empty e = shown r ∙ rw (e, empty, words_cut) (unwrap_or-slice_get (words_of list) n [])
  where
    shown : (o : Option (Bor (List ℕ))) → (unwrap_or o none).now ≡ unwrap_or (option_map (λ w. w.now) o) none.now
    shown None = refl
    shown (Some w) = refl

-- ---- words with blanks between

-- a text whose first byte is no blank and is a blank has no bytes
nothing_left : (t : List ℕ) → field_size t ≡ 0 → blanks t ≡ 0 → t ≡ []
nothing_left [] e f = refl
nothing_left (b ∷ t) e f = clash (before-zero is_blank b t e) (not-true (is_blank b) (before-zero (blank_is false) b t f))

tokens-skip : (s : List ℕ) → tokens s ≡ tokens (drop (blanks s) s)
unfolding pieces_by non_empty before
tokens-skip [] = refl
tokens-skip (b ∷ t) = go (is_blank b) refl (tokens-skip t)
  where
    go : (d : Bool) → is_blank b ≡ d → tokens t ≡ tokens (drop (blanks t) t) → tokens (b ∷ t) ≡ tokens (drop (blanks (b ∷ t)) (b ∷ t))
    go true e h = rw e h
    go false e h = rw (e, e)

tokens-after : (t : List ℕ) → field_size t ≡ 0 → non_empty (after is_blank t) ≡ tokens t
unfolding pieces_by non_empty after
tokens-after [] e = refl
tokens-after (b ∷ t) e = rw (before-zero is_blank b t e)

pub non_empty-cons : (l : List ℕ) (ls : List (List ℕ)) → 0 < length l → non_empty (l ∷ ls) ≡ l ∷ non_empty ls
unfolding non_empty
non_empty-cons [] ls h = absurd (omega arith)
non_empty-cons (b ∷ l) ls h = refl

non_empty-skip : (l : List ℕ) (ls : List (List ℕ)) → length l ≡ 0 → non_empty (l ∷ ls) ≡ non_empty ls
unfolding non_empty
non_empty-skip [] ls h = refl
non_empty-skip (b ∷ l) ls h = absurd (omega arith)

-- `rest` is what stands behind the blanks of s, as `&s[start..]` has it, and its first word has n bytes
module _ (s : List ℕ) (start n : ℕ) (skipped : start ≡ blanks s) where
  abbrev rest : List ℕ
  rest = take (length s - start) (drop start s)

  tokens-rest : tokens s ≡ tokens rest
  tokens-rest = tokens-skip s ∙ ap (λ (k : ℕ). tokens (drop k s)) (sym skipped) ∙ ap tokens (sym (take_rest start s))

  rest-blanks : blanks rest ≡ 0
  rest-blanks = rw (take_rest start s, skipped) (before-rest (blank_is false) s)

  module _ (size : n ≡ field_size rest) where
    pub tokens_none : n ≡ 0 → tokens s ≡ []
    unfolding pieces_by non_empty
    tokens_none z = tokens-rest ∙ ap tokens (nothing_left rest (sym size ∙ z) rest-blanks)

    pub tokens-next : (n ≡ 0 → ⊥) → tokens s ≡ take n rest ∷ tokens (drop n rest)
    tokens-next some =
        let inside : n ≤ length rest = omega (arith, before-le is_blank rest) in
        let word : 0 < length (take n rest) = omega (arith, length-take-le n rest inside) in
        let ended : field_size (drop n rest) ≡ 0 = rw size (before-rest is_blank rest) in
        tokens-rest ∙ ap non_empty (pieces-first is_blank rest n size)
        ∙ non_empty-cons (take n rest) (after is_blank (drop n rest)) word
        ∙ ap (λ (ls : List (List ℕ)). take n rest ∷ ls) (tokens-after (drop n rest) ended)

-- a text with a byte that is no blank has a word
words-some : (list s : List ℕ) → blanks s < length s → with_words list 0 (tokens s) ≡ some_words list (tokens s)
unfolding pieces_by non_empty before
words-some list [] h = absurd (omega arith)
words-some list (b ∷ t) h = go (is_blank b) refl h (words-some list t)
  where
    go : (d : Bool) → is_blank b ≡ d → cond (not d) 0 (suc (blanks t)) < suc (length t)
        → (blanks t < length t → with_words list 0 (tokens t) ≡ some_words list (tokens t))
        → with_words list 0 (tokens (b ∷ t)) ≡ some_words list (tokens (b ∷ t))
    go true e l later = rw e (later (omega arith))
    go false e l later = rw (e, pieces-first is_blank t (field_size t) refl)

-- ---- a set that is read

-- word k of the list is the first of those that are left
module _ (list : List ℕ) (v : ℕ) (ts : List (List ℕ)) (w : List ℕ) (ws : List (List ℕ)) (told : ts ≡ w ∷ ws) (k : ℕ) (number : k ≡ word_number list w) where
  pub with-unknown : word_count list ≤ k → None ≡ with_words list v ts
  unfolding with_words
  with-unknown h = simp (told, sym number, le-leb (word_count list) k h)

  pub with-high : 8 ≤ k → None ≡ with_words list v ts
  unfolding with_words
  with-high h = simp (told, sym number, le-leb 8 k h, or-true)

  pub with-twice : eqb (bit k v) 1 ≡ true → None ≡ with_words list v ts
  unfolding with_words
  with-twice e = simp (told, sym number, e, or-true)

  pub with-next : k < word_count list → k < 8 → eqb (bit k v) 1 ≡ false → with_words list (v + 2 ^ k) ws ≡ with_words list v ts
  unfolding with_words
  with-next h l e = simp (told, sym number, lt-leb (word_count list) k h, lt-leb 8 k l, e)

-- may the word not be added?
abbrev refused : List ℕ → ℕ → List ℕ → Bool
refused list v w =
    let k = word_number list w in
    leb (word_count list) k || leb 8 k || eqb (bit k v) 1

-- w is the first of the pieces that are left: it has no bytes, it makes no set, or it makes the set u
module _ (list : List ℕ) (v : ℕ) (cut : List (List ℕ)) (w : List ℕ) (ws : List (List ℕ)) (told : cut ≡ w ∷ ws) where
  pub with-empty : length w ≡ 0 → with_words list v (non_empty ws) ≡ with_words list v (non_empty cut)
  with-empty e = ap (with_words list v) (sym (ap non_empty told ∙ non_empty-skip w ws e))

  module _ (some : length w ≡ 0 → ⊥) where
    cut_some : non_empty cut ≡ w ∷ non_empty ws
    cut_some = ap non_empty told ∙ non_empty-cons w ws (omega arith)

    pub with-stop : None ≡ with_words list v (w ∷ []) → None ≡ with_words list v (non_empty cut)
    unfolding with_words
    with-stop e = go (refused list v w) e ∙ ap (with_words list v) (sym cut_some)
      where
        go : (d : Bool) → None ≡ cond d None (Some (v + 2 ^ word_number list w))
            → None ≡ cond d None (with_words list (v + 2 ^ word_number list w) (non_empty ws))
        go true f = refl
        go false f = absurd (none-some _ f)

    pub with-more : (u : ℕ) → Some u ≡ with_words list v (w ∷ []) → with_words list u (non_empty ws) ≡ with_words list v (non_empty cut)
    unfolding with_words
    with-more u e = go (refused list v w) e ∙ ap (with_words list v) (sym cut_some)
      where
        go : (d : Bool) → Some u ≡ cond d None (Some (v + 2 ^ word_number list w))
            → with_words list u (non_empty ws) ≡ cond d None (with_words list (v + 2 ^ word_number list w) (non_empty ws))
        go true f = absurd (none-some _ (sym f))
        go false f = ap (λ (x : ℕ). with_words list x (non_empty ws)) (same_Some _ _ f)

pub with_none : (list : List ℕ) (v : ℕ) (ts : List (List ℕ)) → ts ≡ [] → Some v ≡ with_words list v ts
unfolding with_words
with_none list v ts e = rw e

-- the text is `none`; it is not, and has no words; it has some
pub set-none : (list s : List ℕ) → same (trim s) no_word ≡ true → Some 0 ≡ read_word_set list s
unfolding read_word_set
set-none list s e = rw e

module _ (list s : List ℕ) (other : same (trim s) no_word ≡ false) where
  pub set-no-words : length s ≤ blanks s → None ≡ read_word_set list s
  unfolding read_word_set pieces_by non_empty
  set-no-words h =
      let empty : tokens s ≡ [] = tokens-skip s ∙ ap tokens (drop_of_length-le s h) in
      rw (other, empty)

  pub set_words : blanks s < length s → with_words list 0 (tokens s) ≡ read_word_set list s
  unfolding read_word_set
  set_words h = words-some list s h ∙ rw other

-- bit k as a number, and a set with a bit that it has not yet
pub bit-value : (k : ℕ) → k < 8 → 1 * 2 ^ k % 256 ≡ 2 ^ k
bit-value k h = shl_exact {a = 1} 1 k 8 (omega arith) (omega arith) ∙ one-mul (2 ^ k)

pub bit-fits : (m k v : ℕ) → k < m → v < 2 ^ m → (bit k v ≡ 1 → ⊥) → v + 2 ^ k < 2 ^ m
bit-fits zero k v h l free = absurd (omega arith)
bit-fits (suc m) zero v h l free = omega (arith, pow-suc 2 m)
bit-fits (suc m) (suc k) v h l free =
    let half : v / 2 ^ suc k ≡ v / 2 / 2 ^ k = ap (λ (x : ℕ). v / x) (pow-succ' 2 k) ∙ sym (div-div-eq-div-mul v 2 (2 ^ k)) in
    omega (arith, pow-suc 2 m, pow-suc 2 k, bit-fits m k (v / 2) (omega arith) (omega (arith, pow-suc 2 m)) (λ e. free (ap (λ (x : ℕ). x % 2) half ∙ e)))

-- ---- a set that is put

pub chosen-cons : (ws : List (List ℕ)) (k v : ℕ) → k < length ws
    → let rest = chosen (drop (k + 1) ws) (v / 2) in chosen (drop k ws) v ≡ cond (eqb (v % 2) 1) (get_or ws k [] ∷ rest) rest
unfolding chosen
chosen-cons ws k v h = rw (drop-cons ws k [] h, add-one k)

pub listed-end : (first : Bool) (words : List (List ℕ)) (v : ℕ) → words ≡ [] → cond first no_word [] ≡ listed first (chosen words v)
unfolding listed chosen
listed-end first words v e = rw e

-- w is the first of the words that are left
module _ (first : Bool) (words : List (List ℕ)) (w : List ℕ) (ws : List (List ℕ)) (told : words ≡ w ∷ ws) (v : ℕ) where
  pub listed-skip : (v % 2 ≡ 1 → ⊥) → listed first (chosen ws (v / 2)) ≡ listed first (chosen words v)
  unfolding chosen
  listed-skip even =
      let e : v % 2 ≡ 0 = omega arith in
      rw (told, e)

  pub listed-word : v % 2 ≡ 1 → spaced first w ++ listed false (chosen ws (v / 2)) ≡ listed first (chosen words v)
  unfolding listed chosen
  listed-word e = rw (told, e)

listed-join : (w : List ℕ) (ws : List (List ℕ)) → w ++ listed false ws ≡ join 32 (w ∷ ws)
unfolding listed join
listed-join w [] = append-nil w
listed-join w (x ∷ xs) = ap (λ (l : List ℕ). w ++ (32 ∷ l)) (listed-join x xs)

pub listed-text : (ws : List (List ℕ)) → listed true ws ≡ set_text ws
unfolding listed set_text
listed-text [] = refl
listed-text (w ∷ ws) = listed-join w ws
