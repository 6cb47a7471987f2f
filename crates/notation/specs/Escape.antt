-- Strings as text, in the words of the record's format: "The bytes as they are. `\xHH` is the byte with that hexadecimal number
-- and `\\` is a backslash; no other byte may follow a backslash. Bytes below 0x20 and the byte 0x7f are written as `\xHH`. `""`
-- alone is the empty string. A string that begins or ends with a space has it as `\x20`." `code` is a character's number.
-- Assumes nothing: these are definitions.
use Rattle.std.specs.Prelude.{ℕ, ◌+◌, List, [], ◌∷◌, Bool, cond, ◌&&◌, length, eqb, leb, ltb, Option, None, Some}
use Prim.Native.Char.{code}
use Rattle.octets.specs.Counting.{gather}
use Rattle.octets.specs.Octets.{byte, differs}
use Rattle.notation.specs.Number.{within, numeral, padded}

abbrev pub backslash : ℕ
backslash = code "\\"

abbrev pub quote : ℕ
quote = code "\""

-- ---- what a text stands for

-- a byte that stands for itself, the backslash apart: none below 0x20 and not 0x7f
abbrev pub bare : ℕ → Bool
bare b = leb 0x20 b && differs b 0x7f

-- a byte and the rest of a string behind it, where there are both
abbrev pub joined : Option ℕ → Option (List ℕ) → Option (List ℕ)
joined None rest = None
joined (Some b) None = None
joined (Some b) (Some s) = Some (b ∷ s)

unfoldable mutual
  -- the bytes that the text stands for, piece by piece
  pub bytes_of : List ℕ → Option (List ℕ)
  bytes_of [] = Some []
  bytes_of (b ∷ t) = cond (eqb b backslash) (escaped t) (cond (bare b) (joined (Some b) (bytes_of t)) None)

  -- .. behind a backslash: a second one, or x and a number
  pub escaped : List ℕ → Option (List ℕ)
  escaped [] = None
  escaped (b ∷ t) = cond (eqb b backslash) (joined (Some backslash) (bytes_of t)) (cond (eqb b (code "x")) (numbered t) None)

  -- .. behind `\x`: two hexadecimal digits
  pub numbered : List ℕ → Option (List ℕ)
  numbered [] = None
  numbered (h ∷ []) = None
  numbered (h ∷ (l ∷ t)) = joined (numeral 16 (h ∷ (l ∷ []))) (bytes_of t)

-- the text is two quotes
abbrev pub is_quotes : List ℕ → Bool
is_quotes t = eqb (length t) 2 && eqb (byte t 0) quote && eqb (byte t 1) quote

-- the string that a text stands for: two quotes are the empty string, no text is no string
unfoldable pub string_of : List ℕ → Option (List ℕ)
string_of [] = None
string_of (b ∷ t) = cond (is_quotes (b ∷ t)) (Some []) (bytes_of (b ∷ t))

-- its bytes; none where there is no string
abbrev pub content_of : Option (List ℕ) → List ℕ
content_of None = []
content_of (Some s) = s

-- ---- the text of a string

-- a byte that is written as itself: a visible ASCII character other than the backslash and the quote; inside a string the
-- space, too
abbrev pub first_shown : Bool → ℕ
first_shown inner = cond inner 0x20 0x21

abbrev pub shown : Bool → ℕ → Bool
shown inner b = within (first_shown inner) 0x7e b && differs b backslash && differs b quote

-- a byte as it is written: as itself, or as `\x` and two digits
unfoldable pub byte_text : Bool → ℕ → List ℕ
byte_text inner b = cond (shown inner b) (b ∷ []) (backslash ∷ (code "x" ∷ padded 2 16 b))

-- byte i stands inside the string: it is neither the first nor the last
abbrev pub is_inner : List ℕ → ℕ → Bool
is_inner s i = ltb 0 i && ltb (i + 1) (length s)

-- byte i of a string as it is written
unfoldable pub text_at : List ℕ → ℕ → List ℕ
text_at s i = byte_text (is_inner s i) (byte s i)

-- the text of a string: its bytes as they are written, one after another; two quotes for the empty string
unfoldable pub string_text : List ℕ → List ℕ
string_text [] = quote ∷ quote ∷ []
string_text (b ∷ s) = gather (text_at (b ∷ s)) 0 (length (b ∷ s))
