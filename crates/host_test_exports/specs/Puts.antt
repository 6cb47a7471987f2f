-- What a writer of this crate does. Assumes nothing: these are definitions.
use Rattle.std.specs.Prelude.{◌≡◌, List, ℕ, length}
use Rattle.octets.specs.Octets.{write}

-- the bytes after it are those before it with ys written from `at` on; ys are n bytes, so the next value's place is at + n
pub record Puts (before after : List ℕ) (at n : ℕ) (ys : List ℕ) : Type 0 where
  pub written : after ≡ write before at ys
  pub size : length ys ≡ n
