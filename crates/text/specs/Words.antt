-- Words: lists of words as text, with one space between, and sets of such words. Assumes nothing: these are definitions.
use Rattle.std.specs.Prelude.{List, [], ◌∷◌, ◌++◌, Bool, true, false, cond, not, ◌&&◌, ◌||◌, ℕ, suc, ◌+◌, ◌/◌, ◌%◌, ◌^◌, length, get_or, eqb, leb, ltb, Option, Some, None}
use Rattle.text.specs.Put.{ascii}
use Rattle.text.specs.Split.{is_blank, same, each, trim, pieces_by, pieces, join, lacks}

-- ---- a list of words

-- the words of a list: they have one space between
abbrev pub words_of : List ℕ → List (List ℕ)
words_of list = pieces 32 list

-- how many words the list has
abbrev pub word_count : List ℕ → ℕ
word_count list = length (words_of list)

-- word n of the list, counted from 0; no bytes past the last
abbrev pub word_at : List ℕ → ℕ → List ℕ
word_at list n = get_or (words_of list) n []

-- the number of the first of the words that is this one; how many there are where none is
unfoldable pub place_of : List ℕ → List (List ℕ) → ℕ
place_of word [] = 0
place_of word (w ∷ ws) = cond (same w word) 0 (suc (place_of word ws))

-- the number of a word in the list
abbrev pub word_number : List ℕ → List ℕ → ℕ
word_number list word = place_of word (words_of list)

-- ---- a set of words: bit k of its number says whether word k is in it

-- bit k of v
abbrev pub bit : ℕ → ℕ → ℕ
bit k v = v / 2 ^ k % 2

-- the pieces that are not empty
unfoldable pub non_empty : List (List ℕ) → List (List ℕ)
non_empty [] = []
non_empty ([] ∷ ls) = non_empty ls
non_empty ((b ∷ l) ∷ ls) = (b ∷ l) ∷ non_empty ls

-- the words that stand in a text with blanks between
abbrev pub tokens : List ℕ → List (List ℕ)
tokens s = non_empty (pieces_by is_blank s)

-- the set v with the words added: each must be one of the first eight of the list, and not be in the set yet, else there is no
-- set
unfoldable pub with_words : List ℕ → ℕ → List (List ℕ) → Option ℕ
with_words list v [] = Some v
with_words list v (w ∷ ws) =
    let k = word_number list w in
    let rest = with_words list (v + 2 ^ k) ws in
    cond (leb (word_count list) k || leb 8 k || eqb (bit k v) 1) None rest

-- the word for a set of no words
abbrev pub no_word : List ℕ
no_word = ascii "none"

-- the set that the words make: at least one
abbrev pub some_words : List ℕ → List (List ℕ) → Option ℕ
some_words list [] = None
some_words list (w ∷ ws) = with_words list 0 (w ∷ ws)

-- the set that is written in the text s; `none` alone is the empty set (beside others it is no word: no list of a set's words
-- has it)
unfoldable pub read_word_set : List ℕ → List ℕ → Option ℕ
read_word_set list s = cond (same (trim s) no_word) (Some 0) (some_words list (tokens s))

-- those of the words that are in the set v, of which bit 0 is for the first of them
unfoldable pub chosen : List (List ℕ) → ℕ → List (List ℕ)
chosen [] v = []
chosen (w ∷ ws) v = cond (eqb (v % 2) 1) (w ∷ chosen ws (v / 2)) (chosen ws (v / 2))

-- the words of a set as text
unfoldable pub set_text : List (List ℕ) → List ℕ
set_text [] = no_word
set_text (w ∷ ws) = join 32 (w ∷ ws)

-- the set v as text: its words in the list's order, with one space between, or `none`
unfoldable pub word_set_text : List ℕ → ℕ → List ℕ
word_set_text list v = set_text (chosen (words_of list) v)

-- ---- lists whose words are read back

-- no word stands twice
unfoldable pub distinct : List (List ℕ) → Bool
distinct [] = true
distinct (w ∷ ws) = each (λ (x : List ℕ). not (same w x)) ws && distinct ws

-- a word that a set may hold: it has a byte, it holds no blank, it is not `none`
unfoldable pub good_word : List ℕ → Bool
good_word w = ltb 0 (length w) && lacks is_blank w && not (same w no_word)

-- at most eight words, each of them good, and no two the same
unfoldable pub good_list : List ℕ → Bool
good_list list = leb (word_count list) 8 && each good_word (words_of list) && distinct (words_of list)

-- ---- what the private functions say; a reader of the definitions above need not read it

-- a word with a space before it, unless it is the first
abbrev pub spaced : Bool → List ℕ → List ℕ
spaced first w = cond first w (32 ∷ w)

-- the words that are left to put; `none` where they would be the first and there are none
unfoldable pub listed : Bool → List (List ℕ) → List ℕ
listed first [] = cond first no_word []
listed first (w ∷ ws) = spaced first w ++ listed false ws
