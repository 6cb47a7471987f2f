-- Worked cases by computation: MAC addresses at the edges of each rule.
use Rattle.octets.specs.Options.{bind}
use Rattle.std.specs.Prelude.{◌≡◌, refl, [], ◌∷◌, map, None, Some}
use Rattle.octets.specs.Counting.{first, any, tabulate, gather}
use Rattle.text.specs.Put.{ascii}
use Rattle.notation.specs.Number.{hex_digit, below, digit, value_from, numeral, digit_byte, padded}
use Rattle.notation.specs.Pairs.{pairs_form, every, read_pairs, pairs_text}
use Rattle.notation.specs.Mac.{read_mac, mac_text}

good : map read_mac (ascii "02:00:5e:10:00:07" ∷ ascii "02:00:5E:10:00:07" ∷ []) ≡ Some (2 ∷ 0 ∷ 94 ∷ 16 ∷ 0 ∷ 7 ∷ []) ∷ Some (2 ∷ 0 ∷ 94 ∷ 16 ∷ 0 ∷ 7 ∷ []) ∷ []
unfolding first any tabulate bind hex_digit below digit value_from numeral pairs_form every read_pairs read_mac
good = refl

bad : map read_mac
    (ascii ""
    ∷ ascii "02:00:5e:10:00"
    ∷ ascii "02:00:5e:10:00:0"
    ∷ ascii "02:00:5e:10:00:007"
    ∷ ascii "02-00-5e-10-00-07"
    ∷ ascii "02:00:5e:10:00.07"
    ∷ ascii "02:00:5e:10:00:0g"
    ∷ ascii "2:000:5e:10:00:07"
    ∷ ascii "02:00:5e:10:00:07 "
    ∷ [])
    ≡ None ∷ None ∷ None ∷ None ∷ None ∷ None ∷ None ∷ None ∷ None ∷ []
unfolding first any tabulate bind hex_digit below digit value_from numeral pairs_form every read_pairs read_mac
bad = refl

written : mac_text (2 ∷ 0 ∷ 94 ∷ 16 ∷ 0 ∷ 7 ∷ []) ≡ ascii "02:00:5e:10:00:07"
unfolding tabulate gather digit_byte padded pairs_text mac_text
written = refl

-- a byte that is missing is 0
short-written : mac_text (2 ∷ 255 ∷ []) ≡ ascii "02:ff:00:00:00:00"
unfolding tabulate gather digit_byte padded pairs_text mac_text
short-written = refl
