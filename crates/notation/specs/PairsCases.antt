-- Worked cases by computation: other numbers of pairs than a MAC address has.
use Rattle.octets.specs.Options.{bind}
use Rattle.std.specs.Prelude.{◌≡◌, refl, [], ◌∷◌, None, Some}
use Rattle.octets.specs.Counting.{first, any, tabulate, gather}
use Rattle.text.specs.Put.{ascii}
use Rattle.notation.specs.Number.{hex_digit, below, digit, value_from, numeral, digit_byte, padded}
use Rattle.notation.specs.Pairs.{pairs_form, every, read_pairs, pairs_text}

read : read_pairs 1 (ascii "fF") ∷ read_pairs 8 (ascii "00:01:00:00:00:00:00:80") ∷ read_pairs 8 (ascii "00:01:00:00:00:00:00") ∷ read_pairs 0 (ascii "") ∷ []
    ≡ Some (255 ∷ []) ∷ Some (0 ∷ 1 ∷ 0 ∷ 0 ∷ 0 ∷ 0 ∷ 0 ∷ 128 ∷ []) ∷ None ∷ None ∷ []
unfolding first any tabulate bind hex_digit below digit value_from numeral pairs_form every read_pairs
read = refl

written : pairs_text 1 (255 ∷ []) ∷ pairs_text 3 (1 ∷ 2 ∷ 3 ∷ 4 ∷ []) ∷ [] ≡ ascii "ff" ∷ ascii "01:02:03" ∷ []
unfolding tabulate gather digit_byte padded pairs_text
written = refl
