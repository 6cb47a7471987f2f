-- Numbers as they are written, in digits of a base of at most 16. Assumes nothing: these are definitions.
use Rattle.octets.specs.Options.{bind}
use Rattle.std.specs.Prelude.{ℕ, zero, suc, ◌+◌, ◌-◌, ◌*◌, ◌/◌, ◌%◌, Bool, cond, ◌&&◌, List, [], ◌∷◌, ◌++◌, drop, leb, ltb, eqb, Option, None, Some, option_map}
use Prim.Native.Char.{code}
use Rattle.octets.specs.Octets.{byte}
use Rattle.text.specs.Put.{ascii}

-- ---- reading

-- from a up to z, both included
abbrev pub within : ℕ → ℕ → ℕ → Bool
within a z b = leb a b && leb b z

-- the value of a hexadecimal digit, a small or a capital letter
unfoldable pub hex_digit : ℕ → Option ℕ
hex_digit b =
    cond (within (code "0") (code "9") b) (Some (b - code "0"))
    (cond (within (code "a") (code "f") b) (Some (b - code "a" + 10))
    (cond (within (code "A") (code "F") b) (Some (b - code "A" + 10)) None))

-- the number where it is below the limit
unfoldable pub below : ℕ → Option ℕ → Option ℕ
below limit None = None
below limit (Some n) = cond (ltb n limit) (Some n) None

-- the value of a digit in a base of at most 16
unfoldable pub digit : ℕ → ℕ → Option ℕ
digit base b = below base (hex_digit b)

-- the number n with the digit b behind it
abbrev pub with_digit : ℕ → ℕ → ℕ → Option ℕ
with_digit base n b = option_map (λ (d : ℕ). n * base + d) (digit base b)

-- the number n with the digits t behind it
unfoldable pub value_from : ℕ → ℕ → List ℕ → Option ℕ
value_from base n [] = Some n
value_from base n (b ∷ t) = bind (with_digit base n b) (λ (m : ℕ). value_from base m t)

-- the number that one or more digits are
unfoldable pub numeral : ℕ → List ℕ → Option ℕ
numeral base [] = None
numeral base (b ∷ t) = value_from base 0 (b ∷ t)

-- whether 0x stands in front
abbrev pub is_hex : List ℕ → Bool
is_hex t = eqb (byte t 0) (code "0") && eqb (byte t 1) (code "x")

-- a number: decimal digits, or 0x and hexadecimal digits
unfoldable pub number : List ℕ → Option ℕ
number t = cond (is_hex t) (numeral 16 (drop 2 t)) (numeral 10 t)

-- these, where they are at most max
abbrev pub numeral_up_to : ℕ → ℕ → List ℕ → Option ℕ
numeral_up_to base max t = below (max + 1) (numeral base t)

abbrev pub number_up_to : ℕ → List ℕ → Option ℕ
number_up_to max t = below (max + 1) (number t)

-- the byte that the two hexadecimal digits at i are. (Past the end stands 0, which is no digit.)
abbrev pub hex_byte_at : List ℕ → ℕ → Option ℕ
hex_byte_at t i = numeral 16 (byte t i ∷ byte t (i + 1) ∷ [])

-- ---- writing

-- the byte of a digit, a small letter
unfoldable pub digit_byte : ℕ → ℕ
digit_byte d = byte (ascii "0123456789abcdef") d

-- the digits of n, where it has at most `most`
unfoldable pub digits_within : ℕ → ℕ → ℕ → List ℕ
digits_within zero base n = []
digits_within (suc most) base n =
    let all = digits_within most base (n / base) ++ (digit_byte (n % base) ∷ []) in
    cond (ltb n base) (digit_byte n ∷ []) all

-- the digits of n in a base of 2 to 16, the first not 0 unless n is 0. (It has at most n + 1.)
unfoldable pub digits : ℕ → ℕ → List ℕ
digits base n = digits_within (suc n) base n

-- the last k digits of n, the first of them 0 where n has fewer
unfoldable pub padded : ℕ → ℕ → ℕ → List ℕ
padded zero base n = []
padded (suc k) base n = padded k base (n / base) ++ (digit_byte (n % base) ∷ [])
