-- What the contracts of private functions say of a piece of a text. A reader of `string_of` and `string_text` need not read it.
-- Assumes nothing: these are definitions.
use Rattle.std.specs.Prelude.{◌≡◌, List, ℕ, ◌+◌, ◌<◌, ◌≤◌, length, drop, Option, None, Some}
use Rattle.notation.specs.Escape.{joined, bytes_of}
use Rattle.notation.specs.declared.escape.Piece.{Piece}

-- the piece p stands at i, and `meaning`, what the text stands for from i on, is its byte and what stands behind it
pub record IsPiece (text : List ℕ) (meaning : Option (List ℕ)) (i : ℕ) (p : Piece) : Type 0 where
  pub some_bytes : 0 < p.size
  pub within : i + p.size ≤ length text
  pub meant : meaning ≡ joined (Some p.byte) (bytes_of (drop (i + p.size) text))

-- the piece that begins at i; where there is none, the text stands for nothing from i on
abbrev pub Begins : List ℕ → Option (List ℕ) → ℕ → Option Piece → Type 0
Begins text meaning i None = meaning ≡ None
Begins text meaning i (Some p) = IsPiece text meaning i p
