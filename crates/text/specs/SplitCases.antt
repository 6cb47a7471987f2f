-- Worked cases by computation: text at the edges of each rule, as lists of cases under one theorem each.
use Rattle.std.specs.Prelude.{◌≡◌, refl, List, [], ◌∷◌, map, ℕ}
use Prim.Native.String.{String}
use Rattle.text.specs.Put.{ascii}
use Rattle.text.specs.Split.{index_of, trim, field_of, value_of, value_start, pieces}
use Rattle.text.specs.Computing.{computing}

-- a line, its field, its value, and where the value stands
record Line : Type 0 where
  line : List ℕ
  field : List ℕ
  value : List ℕ
  place : ℕ

a-line : String → String → String → ℕ → Line
a-line l f v p = record { line = ascii l; field = ascii f; value = ascii v; place = p }

lines : List Line
lines =
    a-line "oem.id METTA" "oem.id" "METTA" 7
    ∷ a-line "oem.id \t  METTA" "oem.id" "METTA" 10
    ∷ a-line "target0.chap-secret a secret of 12" "target0.chap-secret" "a secret of 12" 20
    -- no blank, and so no value; nothing at all
    ∷ a-line "control" "control" "" 7
    ∷ a-line "" "" "" 0
    -- blanks behind the value, as where the line was not trimmed
    ∷ a-line "control single \r" "control" "single" 8
    ∷ []

lines-hold : map (λ (c : Line). record { line = c.line; field = field_of c.line; value = value_of c.line; place = value_start c.line }) lines ≡ lines
unfolding computing a-line lines
lines-hold = refl

-- a text, and what is left of it without the blanks at its ends
record Trimmed : Type 0 where
  text : List ℕ
  left : List ℕ

trims : String → String → Trimmed
trims t l = record { text = ascii t; left = ascii l }

trimmings : List Trimmed
trimmings =
    trims "" ""
    ∷ trims " \t\r " ""
    ∷ trims "a" "a"
    ∷ trims "  a b\t\r" "a b"
    -- a line feed is no blank
    ∷ trims " \n " "\n"
    ∷ []

trimmings-hold : map (λ (c : Trimmed). record { text = c.text; left = trim c.text }) trimmings ≡ trimmings
unfolding computing trims trimmings
trimmings-hold = refl

-- separators at the ends and side by side: one piece more than there are separators
pieces-of-colons : pieces 58 (ascii ":ab::c:") ≡ [] ∷ ascii "ab" ∷ [] ∷ ascii "c" ∷ [] ∷ []
unfolding computing
pieces-of-colons = refl

pieces-of-nothing : pieces 58 [] ≡ [] ∷ []
unfolding computing
pieces-of-nothing = refl

first-colon : map (index_of 58) (ascii "ab:c:" ∷ ascii "ab" ∷ ascii ":" ∷ []) ≡ 2 ∷ 2 ∷ 0 ∷ []
unfolding computing
first-colon = refl
