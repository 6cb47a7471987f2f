-- Text taken apart: blanks, a line's field and value, pieces between separators. Assumes nothing: these are definitions.
use Rattle.std.specs.Prelude.{List, [], ◌∷◌, ◌++◌, Bool, true, false, cond, not, ◌&&◌, ◌||◌, ℕ, suc, ◌+◌, take, drop, eqb}

-- ---- bytes and places

-- a blank: the space, the tab or the carriage return
unfoldable pub is_blank : ℕ → Bool
is_blank b = eqb b 32 || eqb b 9 || eqb b 13

-- b is a blank, where `blank` is true; b is none, where it is false
abbrev pub blank_is : Bool → ℕ → Bool
blank_is blank b = cond blank (is_blank b) (not (is_blank b))

-- the byte is this one
abbrev pub is : ℕ → ℕ → Bool
is sep b = eqb b sep

-- how many bytes stand before the first that passes the test; all of them where none does
unfoldable pub before : (ℕ → Bool) → List ℕ → ℕ
before p [] = 0
before p (b ∷ t) = cond (p b) 0 (suc (before p t))

-- the first place of the byte b, or the length where it is not there
abbrev pub index_of : ℕ → List ℕ → ℕ
index_of b t = before (is b) t

-- the same bytes
unfoldable pub same : List ℕ → List ℕ → Bool
same [] [] = true
same [] (y ∷ ys) = false
same (x ∷ xs) [] = false
same (x ∷ xs) (y ∷ ys) = eqb x y && same xs ys

-- every one passes the test
unfoldable pub each {ℓ} : {A : Type ℓ} → (A → Bool) → List A → Bool
each p [] = true
each p (x ∷ xs) = p x && each p xs

-- ---- without the blanks at the ends

-- how many blanks stand at the front
abbrev pub blanks : List ℕ → ℕ
blanks t = before (blank_is false) t

-- b in front of the bytes left behind it; nothing where b is a blank and nothing is left
abbrev pub kept : ℕ → List ℕ → List ℕ
kept b [] = cond (is_blank b) [] (b ∷ [])
kept b (x ∷ xs) = b ∷ (x ∷ xs)

-- without the blanks at the end
unfoldable pub trim_end : List ℕ → List ℕ
trim_end [] = []
trim_end (b ∷ t) = kept b (trim_end t)

-- without the blanks at both ends
unfoldable pub trim : List ℕ → List ℕ
trim t = trim_end (drop (blanks t) t)

-- ---- a line

-- how many bytes the field has: it ends before the first blank
abbrev pub field_size : List ℕ → ℕ
field_size line = before is_blank line

-- the field of a line
unfoldable pub field_of : List ℕ → List ℕ
field_of line = take (field_size line) line

-- the value of a line: all behind the field, without the blanks at its ends
unfoldable pub value_of : List ℕ → List ℕ
value_of line = trim (drop (field_size line) line)

-- where the value stands in the line
unfoldable pub value_start : List ℕ → ℕ
value_start line = field_size line + blanks (drop (field_size line) line)

-- ---- pieces

-- b in front of the first piece
abbrev pub longer : ℕ → List (List ℕ) → List (List ℕ)
longer b [] = []
longer b (l ∷ ls) = (b ∷ l) ∷ ls

-- the pieces between the bytes that pass the test: one more than there are such bytes
unfoldable pub pieces_by : (ℕ → Bool) → List ℕ → List (List ℕ)
pieces_by p [] = [] ∷ []
pieces_by p (b ∷ t) = cond (p b) ([] ∷ pieces_by p t) (longer b (pieces_by p t))

-- the pieces between the separators
abbrev pub pieces : ℕ → List ℕ → List (List ℕ)
pieces sep t = pieces_by (is sep) t

-- the pieces with a separator between each two
unfoldable pub join : ℕ → List (List ℕ) → List ℕ
join sep [] = []
join sep (x ∷ []) = x
join sep (x ∷ (y ∷ ys)) = x ++ (sep ∷ join sep (y ∷ ys))

-- no byte passes the test
abbrev pub lacks : (ℕ → Bool) → List ℕ → Bool
lacks p t = each (λ (b : ℕ). not (p b)) t
