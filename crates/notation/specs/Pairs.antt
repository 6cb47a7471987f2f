-- Bytes as they are written: n pairs of hexadecimal digits, at least one, with colons between. A MAC address is six of them.
-- Assumes nothing: these are definitions.
use Rattle.octets.specs.Options.{bind}
use Rattle.std.specs.Prelude.{ℕ, ◌+◌, ◌-◌, ◌*◌, Bool, true, false, cond, not, ◌&&◌, List, [], ◌∷◌, ◌++◌, length, eqb, Option, None, Some, option_map, unwrap_or}
use Prim.Native.Char.{code}
use Rattle.octets.specs.Counting.{any, tabulate, gather}
use Rattle.octets.specs.Octets.{byte, differs}
use Rattle.notation.specs.Number.{hex_byte_at, padded}

-- ---- reading

-- three bytes for each pair but for one, with a colon behind each pair but the last
unfoldable pub pairs_form : ℕ → List ℕ → Bool
pairs_form n t = eqb (length t + 1) (3 * n) && not (any (n - 1) (λ (k : ℕ). differs (byte t (3 * k + 2)) (code ":")))

-- the numbers, where all of them are there
unfoldable pub every : List (Option ℕ) → Option (List ℕ)
every [] = Some []
every (o ∷ os) = bind o (λ (n : ℕ). option_map (λ (ns : List ℕ). n ∷ ns) (every os))

-- the n bytes that the text says
unfoldable pub read_pairs : ℕ → List ℕ → Option (List ℕ)
read_pairs n t = cond (pairs_form n t) (every (tabulate (λ (k : ℕ). hex_byte_at t (3 * k)) 0 n)) None

-- whether it says n bytes
unfoldable pub is_read : Option (List ℕ) → Bool
is_read None = false
is_read (Some m) = true

-- what lent bytes are then: those of the text, or what they were
unfoldable pub read_into : List ℕ → Option (List ℕ) → List ℕ
read_into old None = old
read_into old (Some m) = m

-- the byte that the pair at i is; 0 where there is no pair
abbrev pub pair_at : List ℕ → ℕ → ℕ
pair_at t i = unwrap_or (hex_byte_at t i) 0

-- ---- writing

-- a colon and the byte b
abbrev pub colon_pair : ℕ → List ℕ
colon_pair b = code ":" ∷ padded 2 16 b

-- the bytes 1 to n of m, a colon before each
abbrev pub colon_pairs : List ℕ → ℕ → List ℕ
colon_pairs m n = gather (λ (k : ℕ). colon_pair (byte m (k + 1))) 0 n

-- the text of the n bytes from the start on
unfoldable pub pairs_text : ℕ → List ℕ → List ℕ
pairs_text n m = padded 2 16 (byte m 0) ++ colon_pairs m (n - 1)
