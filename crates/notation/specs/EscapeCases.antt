-- Worked cases by computation: texts at the edges of each rule and what they stand for, strings and how they are written.
use Rattle.octets.specs.Options.{bind}
use Rattle.std.specs.Prelude.{◌≡◌, refl, List, [], ◌∷◌, ◌++◌, map, ℕ, Option, None, Some}
use Prim.Native.String.{String}
use Rattle.octets.specs.Counting.{tabulate, gather}
use Rattle.text.specs.Put.{ascii}
use Rattle.notation.specs.Number.{hex_digit, below, digit, value_from, numeral, digit_byte, padded}
use Rattle.notation.specs.Escape.{bytes_of, string_of, byte_text, text_at, string_text}

-- a text, and the string that it stands for
record Case : Type 0 where
  text : List ℕ
  string : Option (List ℕ)

good : String → List ℕ → Case
good t s = record { text = ascii t; string = Some s }

refused : List ℕ → Case
refused t = record { text = t; string = None }

cases : List Case
cases =
    good "a" (ascii "a")
    ∷ good "a b" (ascii "a b")
    ∷ good "iqn.2026-11.example:depot7" (ascii "iqn.2026-11.example:depot7")
    ∷ good "\\x00\\x7f\\xff" (0 ∷ 127 ∷ 255 ∷ [])
    ∷ good "\\xFc\\xfC" (252 ∷ 252 ∷ [])
    ∷ good "\\\\" (ascii "\\")
    ∷ good "\\\\x41" (ascii "\\x41")
    ∷ good "\\x41b" (ascii "Ab")
    -- two quotes alone are the empty string; others are quotes
    ∷ good "\"\"" []
    ∷ good "\"" (ascii "\"")
    ∷ good "\"a\"" (ascii "\"a\"")
    ∷ good "\"\"\"" (ascii "\"\"\"")
    ∷ good "\\x22\\x22" (ascii "\"\"")
    ∷ refused (ascii "")
    -- a backslash at the end, before another byte, before too few digits
    ∷ refused (ascii "\\")
    ∷ refused (ascii "a\\n")
    ∷ refused (ascii "\\X41")
    ∷ refused (ascii "\\x")
    ∷ refused (ascii "\\x4")
    ∷ refused (ascii "\\x4g")
    ∷ refused (ascii "\\xg4")
    -- bytes below 0x20, and 0x7f
    ∷ refused (ascii "a" ++ (31 ∷ []))
    ∷ refused (127 ∷ [])
    ∷ refused (0 ∷ [])
    ∷ []

cases-hold : map (λ (c : Case). string_of c.text) cases ≡ map (λ (c : Case). c.string) cases
unfolding tabulate bind hex_digit below digit value_from numeral bytes_of string_of good refused cases
cases-hold = refl

-- bytes from 0x80 on stand for themselves
high-bytes : string_of (128 ∷ 255 ∷ []) ≡ Some (128 ∷ 255 ∷ [])
unfolding bytes_of string_of
high-bytes = refl

-- strings and their texts: a space is written as itself unless it stands first or last
written : map string_text ([] ∷ ascii "a  b c" ∷ ascii " a " ∷ ascii " " ∷ ascii "  " ∷ (ascii "a\"\\~" ++ (0 ∷ 127 ∷ 252 ∷ [])) ∷ [])
    ≡ ascii "\"\"" ∷ ascii "a  b c" ∷ ascii "\\x20a\\x20" ∷ ascii "\\x20" ∷ ascii "\\x20\\x20" ∷ ascii "a\\x22\\x5c~\\x00\\x7f\\xfc" ∷ []
unfolding tabulate gather digit_byte padded byte_text text_at string_text
written = refl
