-- Text as bytes, and text put into lent room. Assumes nothing: these are definitions.
use Rattle.std.specs.Prelude.{◌≡◌, List, ℕ, ◌+◌, min, length}
use Prim.Native.Char.{code}
use Prim.Native.String.{String, len, char_at}
use Rattle.octets.specs.Counting.{tabulate}
use Rattle.octets.specs.Octets.{write}

-- the bytes of a text of ASCII characters
abbrev pub ascii : String → List ℕ
ascii s = tabulate (λ (k : ℕ). code (char_at s k)) 0 (len s)

-- the place behind the text ys that stands from `at` on: at most the end of the room
abbrev pub behind : List ℕ → ℕ → List ℕ → ℕ
behind room at ys = min (length room) (at + length ys)

-- what a call does that puts the text ys at `at`: the room then holds it, as far as it fits, and nothing else has changed; the
-- call answers the place behind it
pub record Puts (before after : List ℕ) (at answer : ℕ) (ys : List ℕ) : Type 0 where
  pub bytes : after ≡ write before at ys
  pub end : answer ≡ behind before at ys
