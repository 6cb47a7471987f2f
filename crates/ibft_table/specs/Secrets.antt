-- Secrets with their own bytes: RULES.md, Strings and Least Length. A table gives them their own bytes where no secret that is
-- present, its zero included, has a byte in common with another entry or that entry's zero. A build does; the check does not
-- ask for it.
-- Assumes nothing: these are definitions.
use Rattle.std.specs.Prelude.{ℕ, ◌+◌, List, Bool, true, false, not, ◌&&◌, ltb}
use Rattle.octets.specs.Counting.{any}
use Rattle.octets.specs.Octets.{differs}
use Rattle.ibft_layout.specs.Layout.{entry_count, string_of}
use Rattle.ibft_table.specs.Table.{starts_of, size_in, offset_in, holds_in}

-- where entry n ends, its zero included
abbrev pub behind : List ℕ → List ℕ → ℕ → ℕ
behind starts t n = offset_in starts t n + size_in starts t n + 1

-- entry j is another than i, is present, and has a byte in common with i, zeros included
unfoldable pub overlaps : List ℕ → List ℕ → ℕ → ℕ → Bool
overlaps starts t i j =
    differs i j
    && (holds_in starts t j && (ltb (offset_in starts t i) (behind starts t j) && ltb (offset_in starts t j) (behind starts t i)))

-- where entry i is a secret that is present: whether another entry has a byte in common with it
unfoldable pub shared_if : List ℕ → List ℕ → ℕ → Bool → Bool
shared_if starts t i false = false
shared_if starts t i true = any entry_count (overlaps starts t i)

unfoldable pub shared : List ℕ → List ℕ → ℕ → Bool
shared starts t i = shared_if starts t i ((string_of i).secret && holds_in starts t i)

unfoldable pub apart_in : List ℕ → List ℕ → Bool
apart_in starts t = not (any entry_count (shared starts t))

-- no secret that is present has a byte in common with another entry
unfoldable pub secrets_apart : List ℕ → Bool
secrets_apart t = apart_in (starts_of t) t
