-- What the contracts of the private functions of `address` say. A reader of the promises, `read_address` and `address_text`, need
-- not read it. Assumes nothing: these are definitions.
use Rattle.std.specs.Prelude.{◌≡◌, Bool, true, false, List, ℕ, length, Option, None, Some}
use Rattle.octets.specs.Counting.{tabulate}
use Rattle.octets.specs.Octets.{byte}
use Rattle.text.specs.Put.{Puts}
use Rattle.text.specs.Split.{join}
use Rattle.notation.specs.Number.{digits}
use Rattle.notation.specs.Address.{dot, colon, group_at}

-- what a call does that puts the bytes of a text at `at`: they are put where the text has the form; where it has not, the call
-- answers the room's end; the room keeps its length
pub record Gathers (before after : List ℕ) (at answer : ℕ) (bytes : Option (List ℕ)) : Type 0 where
  pub puts : (xs : List ℕ) → bytes ≡ Some xs → Puts before after at answer xs
  pub refuses : bytes ≡ None → answer ≡ length before
  pub size : length after ≡ length before

-- the k-th number of an address as text: as IPv4 a byte in decimal, else a group in hexadecimal digits
abbrev pub number_text : List ℕ → Bool → ℕ → List ℕ
number_text a true k = digits 10 (byte a k)
number_text a false k = digits 16 (group_at a k)

-- the byte between two of them
abbrev pub separator : Bool → ℕ
separator true = dot
separator false = colon

-- the n numbers from k on
unfoldable pub numbers_text : List ℕ → Bool → ℕ → ℕ → List ℕ
numbers_text a four k n = join (separator four) (tabulate (number_text a four) k n)
