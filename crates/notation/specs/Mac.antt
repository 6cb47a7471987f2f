-- MAC addresses as they are written: six pairs of hexadecimal digits with colons between. Assumes nothing: these are
-- definitions.
use Rattle.std.specs.Prelude.{ℕ, List, Option}
use Rattle.notation.specs.Pairs.{read_pairs, pairs_text}

-- the six bytes that the text says
unfoldable pub read_mac : List ℕ → Option (List ℕ)
read_mac t = read_pairs 6 t

-- the text of the six bytes from the start on
unfoldable pub mac_text : List ℕ → List ℕ
mac_text m = pairs_text 6 m
