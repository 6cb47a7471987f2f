-- What a writer of the record range leaves and answers. Assumes nothing: these are definitions.
use Rattle.std.specs.Prelude.{◌≡◌, List, [], ◌∷◌, ◌++◌, ℕ, ◌+◌, length}
use Rattle.octets.specs.Octets.{byte, part, write}

-- t became u: x is written from `at` on, and ends at `end`
pub record Wrote (t : List ℕ) (at : ℕ) (x u : List ℕ) (end : ℕ) : Type 0 where
  pub bytes : u ≡ write t at x
  pub ends : end ≡ at + length x

-- the front of a table's record range: the OEM fields and Control's flags
abbrev pub front : List ℕ → List ℕ
front t = part t 10 14 ++ (byte t 53 ∷ [])
