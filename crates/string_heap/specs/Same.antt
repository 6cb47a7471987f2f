-- Bytes that are the same in two byte strings, as the code of the tail test finds them: only its proofs need this. Assumes
-- nothing: these are definitions.
use Rattle.std.specs.Prelude.{◌≡◌, List, ℕ, ◌+◌, ◌<◌, get_or}
use Rattle.string_heap.specs.Tails.{back}

-- the n bytes of a from i on and those of b from j on
abbrev pub SameFrom : List ℕ → ℕ → List ℕ → ℕ → ℕ → Type 0
SameFrom a i b j n = (k : ℕ) → k < n → get_or a (i + k) 0 ≡ get_or b (j + k) 0

-- the last n bytes of a and those of b, counted from the back
abbrev pub SameBack : List ℕ → List ℕ → ℕ → Type 0
SameBack a b n = (k : ℕ) → k < n → back a k ≡ back b k
