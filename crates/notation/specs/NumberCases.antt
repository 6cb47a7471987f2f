-- Worked cases by computation: numbers at the edges of each rule.
use Rattle.octets.specs.Options.{bind}
use Rattle.std.specs.Prelude.{◌≡◌, refl, List, [], ◌∷◌, map, ℕ, Option, None, Some}
use Prim.Native.String.{String}
use Rattle.octets.specs.Counting.{tabulate}
use Rattle.text.specs.Put.{ascii}
use Rattle.notation.specs.Number.{hex_digit, below, digit, value_from, numeral, number, number_up_to, digit_byte, digits_within, digits, padded}

-- a text, and the number up to 65535 that it is
record Case : Type 0 where
  text : List ℕ
  value : Option ℕ

reads : String → ℕ → Case
reads s n = record { text = ascii s; value = Some n }

refused : String → Case
refused s = record { text = ascii s; value = None }

cases : List Case
cases =
    reads "0" 0
    ∷ reads "3260" 3260
    ∷ reads "000003260" 3260
    ∷ reads "65535" 65535
    ∷ refused "65536"
    ∷ refused "65535000"
    ∷ reads "0xffff" 65535
    ∷ reads "0xFfFf" 65535
    ∷ reads "0x00000cBc" 3260
    ∷ refused "0x10000"
    ∷ refused ""
    ∷ refused "0x"
    ∷ refused "0X1"
    ∷ refused "x1"
    ∷ refused "0xg"
    ∷ refused "12a"
    ∷ refused "1 2"
    ∷ refused "-1"
    ∷ refused "/"
    ∷ refused ":"
    ∷ []

cases-hold : map (λ (c : Case). number_up_to 65535 c.text) cases ≡ map (λ (c : Case). c.value) cases
unfolding tabulate bind hex_digit below digit value_from numeral number reads refused cases
cases-hold = refl

largest : digits 10 18446744073709551615 ≡ ascii "18446744073709551615"
unfolding tabulate digit_byte digits_within digits
largest = refl

zero-written : digits 10 0 ≡ ascii "0"
unfolding tabulate digit_byte digits_within digits
zero-written = refl

hex-written : digits 16 0xfe80 ≡ ascii "fe80"
unfolding tabulate digit_byte digits_within digits
hex-written = refl

byte-written : padded 2 16 7 ≡ ascii "07"
unfolding tabulate digit_byte padded
byte-written = refl

low-written : padded 2 16 0x1fc ≡ ascii "fc"
unfolding tabulate digit_byte padded
low-written = refl
