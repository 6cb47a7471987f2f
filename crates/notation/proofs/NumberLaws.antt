-- Laws of numbers as they are written. Read: a number only grows with its digits, so one that has passed its limit is refused
-- whatever follows. Written: every text that `digits` makes is one digit, or the digits of n / base and one more
-- (`digits-made`), and what holds of such texts is shown once for each of the two.
--     value-go, value-stop, value-end               the next digit, a byte that ends it, no more bytes
--     digits-small, digits_more                     one digit, or one more
--     numeral-digits, number_up_to-digits             digits read back
--     numeral-padded, hex-byte-back                 so do the last k digits, and the two of a byte
--     hex_byte_at-small, hex_byte_at-lies               two hexadecimal digits in a text
--     digits-length, digits-some, padded-length     how many there are
--     digits-never, padded-never                    a byte that is no digit is not among them
--     puts_first, puts-last                         digits put into room
-- Assumes nothing.
use Rattle.octets.specs.Options.{bind}
use Rattle.std.proofs.lemmas.Option.{none-some}
use Rattle.std.specs.Prelude.{Option, None, Some, option_map, unwrap_or}
use mathlib.Core.Path.{◌≡◌, refl, sym, ap, ap₂, ◌∙◌}
use mathlib.Core.Bool.{Bool, true, false, ◌&&◌}
use mathlib.Core.List.{List, [], ◌∷◌, ◌++◌}
use Prim.Native.Nat.{ℕ, zero, suc, ◌+◌, ◌*◌, ◌/◌, ◌%◌, ◌^◌, ◌≤◌, ◌<◌}
use Prim.Native.Char.{code}
use native.Mathlib.Nat.{add-zero, zero-mul, one-mul, pow-zero, pow-suc, mod-lt, div-lt_self, div-add-mod', div-lt_iff_lt-mul, le-mul_of_pos_right}
use native.Mathlib.Numerals.{add-one}
use native.Mathlib.Decide.{dec_lt}
use native.Mathlib.Omega.{arith}
use borrow.Author.Tests.{lt-ltb, le-ltb, eqb-true, ne_eqb}
use lib.ListN.{length, drop, length-append, drop_of_length-le, get_or-append}
use lib.Seq.{drop-cons, get_or-append-add}
use lib.Dec.{eqb}
use Rattle.octets.specs.Counting.{first, any, tabulate}
use Rattle.octets.specs.Octets.{byte}
use Rattle.octets.proofs.CountingLaws.{each_holds}
use Rattle.octets.proofs.ReadLaws.{byte_past}
use Rattle.octets.proofs.LiesLaws.{Lies}
use Rattle.text.specs.Put.{Puts}
use Rattle.text.proofs.PutLaws.{puts-append, puts-same}
use Rattle.notation.specs.Number.{hex_digit, below, digit, with_digit, value_from, numeral, is_hex, number, numeral_up_to, number_up_to}
use Rattle.notation.specs.Number.{hex_byte_at, digit_byte, digits_within, digits, padded}

-- ---- a number below a limit

pub below-yes : (limit n : ℕ) → n < limit → below limit (Some n) ≡ Some n
unfolding below
below-yes limit n h = rw (lt-ltb n limit h)

pub below-no : (limit n : ℕ) → limit ≤ n → below limit (Some n) ≡ None
unfolding below
below-no limit n h = rw (le-ltb n limit h)

below_none : (limit n : ℕ) → below limit (Some n) ≡ None → limit ≤ n
below_none limit n e =
    elim (dec_lt n limit) [
      | yes h ↦ absurd (none-some n (sym e ∙ below-yes limit n h))
      | no h ↦ omega arith
    ]

pub below-some : (limit n : ℕ) (o : Option ℕ) → below limit o ≡ Some n → (o ≡ Some n) × (n < limit)
unfolding below
below-some limit n None e = absurd (none-some n e)
below-some limit n (Some m) e =
    elim (dec_lt m limit) [
      | yes h ↦
          let same : Some m ≡ Some n = sym (below-yes limit m h) ∙ e in
          let equal : m ≡ n = cc in (same, omega arith)
      | no h ↦ absurd (none-some n (sym (below-no limit m (omega arith)) ∙ e))
    ]

-- a limit that no value reaches
below_all : (limit : ℕ) (o : Option ℕ) → ((n : ℕ) → o ≡ Some n → n < limit) → below limit o ≡ o
unfolding below
below_all limit None small = refl
below_all limit (Some n) small = below-yes limit n (small n refl)

pub digit-below : (base b d : ℕ) → digit base b ≡ Some d → d < base
unfolding digit
digit-below base b d e = (below-some base d (hex_digit b) e).1

-- ---- reading goes on

-- a number that has passed the limit is refused, whatever follows
value-past : (base limit : ℕ) (t : List ℕ) (m : ℕ) → limit ≤ m → below limit (value_from base m t) ≡ None
unfolding value_from bind below
value-past base limit [] m h = below-no limit m h
value-past base limit (b ∷ t) m h = go (digit base b) (digit-below base b) (value-past base limit t)
  where
    go : (o : Option ℕ) → ((d : ℕ) → o ≡ Some d → d < base) → ((k : ℕ) → limit ≤ k → below limit (value_from base k t) ≡ None)
        → below limit (bind (option_map (λ (d : ℕ). m * base + d) o) (λ (k : ℕ). value_from base k t)) ≡ None
    go None small more = refl
    go (Some d) small more =
        let pos : 0 < base = omega (arith, small d refl) in
        let grown : m ≤ m * base = le-mul_of_pos_right m pos in
        more (m * base + d) (omega arith)

module _ (base n : ℕ) (s : List ℕ) (i : ℕ) (inside : i < length s) where
  value-step : value_from base n (drop i s) ≡ bind (with_digit base n (byte s i)) (λ (m : ℕ). value_from base m (drop (i + 1) s))
  unfolding value_from
  value-step = rw (drop-cons s i 0, add-one)

  -- the next digit is taken
  pub value-go : (limit m : ℕ) → below limit (with_digit base n (byte s i)) ≡ Some m
      → value_from base m (drop (i + 1) s) ≡ value_from base n (drop i s)
  unfolding bind
  value-go limit m e = sym (value-step ∙ rw (below-some limit m (with_digit base n (byte s i)) e).0)

  -- the next byte is no digit, or the number passes the limit with it
  pub value-stop : (limit : ℕ) → below limit (with_digit base n (byte s i)) ≡ None → below limit (value_from base n (drop i s)) ≡ None
  unfolding bind below
  value-stop limit e = ap (below limit) value-step ∙ go (with_digit base n (byte s i)) e
    where
      go : (o : Option ℕ) → below limit o ≡ None → below limit (bind o (λ (m : ℕ). value_from base m (drop (i + 1) s))) ≡ None
      go None f = refl
      go (Some m) f = value-past base limit (drop (i + 1) s) m (below_none limit m f)

pub value-end : (base n : ℕ) (s : List ℕ) (i : ℕ) → length s ≤ i → value_from base n (drop i s) ≡ Some n
unfolding value_from
value-end base n s i h = rw drop_of_length-le

pub numeral-value : (base : ℕ) (s : List ℕ) → 0 < length s → numeral base s ≡ value_from base 0 s
unfolding numeral
numeral-value base [] h = absurd (omega arith)
numeral-value base (b ∷ t) h = refl

pub numeral-empty : (base : ℕ) (s : List ℕ) → length s ≡ 0 → numeral base s ≡ None
unfolding numeral
numeral-empty base [] h = refl
numeral-empty base (b ∷ t) h = absurd (omega arith)

-- ---- one digit

hex_digit-back : (d : ℕ) → d < 16 → hex_digit (digit_byte d) ≡ Some d
unfolding any first tabulate hex_digit digit_byte
hex_digit-back d h =
    go (hex_digit (digit_byte d)) (eqb-true _ d (each_holds 16 (λ (k : ℕ). eqb (unwrap_or (hex_digit (digit_byte k)) 16) k) refl d h))
  where
    go : (o : Option ℕ) → unwrap_or o 16 ≡ d → o ≡ Some d
    go None e = absurd (omega arith)
    go (Some m) e = ap Some e

pub digit-back : (base d : ℕ) → base ≤ 16 → d < base → digit base (digit_byte d) ≡ Some d
unfolding digit
digit-back base d small h = ap (below base) (hex_digit-back d (omega arith)) ∙ below-yes base d h

-- ---- two hexadecimal digits

pair_small : (a b v : ℕ) → numeral 16 (a ∷ b ∷ []) ≡ Some v → v < 256
unfolding numeral value_from bind
pair_small a b v = go (digit 16 a) (digit 16 b) (digit-below 16 a) (digit-below 16 b)
  where
    go : (o p : Option ℕ) → ((d : ℕ) → o ≡ Some d → d < 16) → ((d : ℕ) → p ≡ Some d → d < 16)
        → bind (option_map (λ (d : ℕ). 0 * 16 + d) o) (λ (m : ℕ). bind (option_map (λ (d : ℕ). m * 16 + d) p) (λ (k : ℕ). Some k)) ≡ Some v
        → v < 256
    go None p high low e = absurd (none-some v e)
    go (Some h) None high low e = absurd (none-some v e)
    go (Some h) (Some l) high low e =
        let value : (0 * 16 + h) * 16 + l ≡ v = cc in
        omega (arith, high h refl, low l refl)

module _ (t : List ℕ) (i : ℕ) where
  -- they are a byte
  pub hex_byte_at-small : (v : ℕ) → hex_byte_at t i ≡ Some v → v < 256
  hex_byte_at-small = pair_small (byte t i) (byte t (i + 1))

  pub hex_byte_at-below : below 256 (hex_byte_at t i) ≡ hex_byte_at t i
  hex_byte_at-below = below_all 256 (hex_byte_at t i) hex_byte_at-small

  pub hex_byte_at-past : length t ≤ i → hex_byte_at t i ≡ None
  unfolding numeral value_from bind digit below hex_digit
  hex_byte_at-past h = rw (← byte_past t i h)

-- ---- digits behind digits

value-append : (base n : ℕ) (xs ys : List ℕ) → value_from base n (xs ++ ys) ≡ bind (value_from base n xs) (λ (m : ℕ). value_from base m ys)
unfolding value_from bind
value-append base n [] ys = refl
value-append base n (b ∷ xs) ys = go (with_digit base n b) (λ m. value-append base m xs ys)
  where
    go : (o : Option ℕ) → ((m : ℕ) → value_from base m (xs ++ ys) ≡ bind (value_from base m xs) (λ (k : ℕ). value_from base k ys))
        → bind o (λ (m : ℕ). value_from base m (xs ++ ys)) ≡ bind (bind o (λ (m : ℕ). value_from base m xs)) (λ (k : ℕ). value_from base k ys)
    go None more = refl
    go (Some m) more = more m

value-last : (base n : ℕ) (xs : List ℕ) → 0 < base → base ≤ 16 → value_from base 0 xs ≡ Some (n / base)
    → value_from base 0 (xs ++ (digit_byte (n % base) ∷ [])) ≡ Some n
unfolding value_from bind
value-last base n xs pos small e =
    value-append base 0 xs (digit_byte (n % base) ∷ [])
    ∙ rw (e, digit-back base (n % base) small (mod-lt n pos)) (ap Some (div-add-mod' n base))

-- ---- the digits of a number

module _ (base : ℕ) (two : 1 < base) where
  fewer : (n : ℕ) → base ≤ n → n / base < n
  fewer n h = div-lt_self (omega arith) two

  within_more : (most n : ℕ) → base ≤ n → digits_within (suc most) base n ≡ digits_within most base (n / base) ++ (digit_byte (n % base) ∷ [])
  unfolding digits_within
  within_more most n h = rw (le-ltb n base h)

  -- one digit, or the digits of n / base and one more
  pub digits-made : (P : ℕ → List ℕ → Type 0) → ((n : ℕ) → n < base → P n (digit_byte n ∷ []))
      → ((n : ℕ) (xs : List ℕ) → base ≤ n → P (n / base) xs → P n (xs ++ (digit_byte (n % base) ∷ [])))
      → (n : ℕ) → P n (digits base n)
  unfolding digits digits_within
  digits-made P one more n = made (suc n) n (omega arith)
    where
      made : (most n : ℕ) → n < most → P n (digits_within most base n)
      made zero n h = absurd (omega arith)
      made (suc most) n h =
          elim (dec_lt n base) [
            | yes l ↦ rw (lt-ltb n base l) (one n l)
            | no l ↦
                let least : base ≤ n = omega arith in
                let less = fewer n least in
                rw (within_more most n least) (more n (digits_within most base (n / base)) least (made most (n / base) (omega arith)))
          ]

  -- how many there might be does not matter, where there are enough
  within_same : (j k n : ℕ) → n < j → n < k → digits_within j base n ≡ digits_within k base n
  unfolding digits_within
  within_same zero k n h l = absurd (omega arith)
  within_same (suc j) zero n h l = absurd (omega arith)
  within_same (suc j) (suc k) n h l =
      elim (dec_lt n base) [
        | yes m ↦ rw (lt-ltb n base m)
        | no m ↦
            let least : base ≤ n = omega arith in
            let less = fewer n least in
            within_more j n least
            ∙ ap (λ (xs : List ℕ). xs ++ (digit_byte (n % base) ∷ [])) (within_same j k (n / base) (omega arith) (omega arith))
            ∙ sym (within_more k n least)
      ]

  pub digits_more : (n : ℕ) → base ≤ n → digits base n ≡ digits base (n / base) ++ (digit_byte (n % base) ∷ [])
  unfolding digits
  digits_more n h =
      let less = fewer n h in
      within_more n n h ∙ ap (λ (xs : List ℕ). xs ++ (digit_byte (n % base) ∷ [])) (within_same n (suc (n / base)) (n / base) less (omega arith))

  -- there is at least one
  pub digits-some : (n : ℕ) → 0 < length (digits base n)
  digits-some =
      digits-made (λ (n : ℕ) (xs : List ℕ). 0 < length xs) (λ n h. omega arith)
      (λ n xs h l. omega (arith, length-append xs (digit_byte (n % base) ∷ [])))

  -- a number below base ^ j has at most j, where j is not 0
  pub digits-length : (j n : ℕ) → n < base ^ suc j → length (digits base n) ≤ suc j
  digits-length j n =
      digits-made (λ (n : ℕ) (xs : List ℕ). (j : ℕ) → n < base ^ suc j → length xs ≤ suc j) (λ n h j l. omega arith)
      go n j
    where
      go : (n : ℕ) (xs : List ℕ) → base ≤ n → ((j : ℕ) → n / base < base ^ suc j → length xs ≤ suc j)
          → (j : ℕ) → n < base ^ suc j → length (xs ++ (digit_byte (n % base) ∷ [])) ≤ suc j
      go n xs h ih zero l =
          let first : base ^ 1 ≡ base = pow-suc base 0 ∙ rw (pow-zero base) (one-mul base) in
          absurd (omega arith)
      go n xs h ih (suc j) l =
          let low : n < base ^ suc j * base = omega (arith, pow-suc base (suc j)) in
          let pos : 0 < base = omega arith in
          let less : n / base < base ^ suc j = (div-lt_iff_lt-mul pos).1 low in
          omega (arith, ih j less, length-append xs (digit_byte (n % base) ∷ []))

pub digits-small : (base n : ℕ) → n < base → digits base n ≡ digit_byte n ∷ []
unfolding digits digits_within
digits-small base n h = rw (lt-ltb n base h)

-- every byte of the text passes
abbrev pub Each : (ℕ → Type 0) → List ℕ → Type 0
Each P xs = (k : ℕ) → k < length xs → P (byte xs k)

each_last : (P : ℕ → Type 0) (xs : List ℕ) (b : ℕ) → Each P xs → P b → Each P (xs ++ (b ∷ []))
each_last P xs b each last k h =
    elim (dec_lt k (length xs)) [
      | yes l ↦ rw (get_or-append xs (b ∷ []) 0 k l) (each k l)
      | no l ↦
          let place : k ≡ length xs + 0 = omega (arith, length-append xs (b ∷ [])) in
          rw (place, get_or-append-add xs (b ∷ []) 0 0) last
    ]

pub padded-length : (base k n : ℕ) → length (padded k base n) ≡ k
unfolding padded
padded-length base zero n = refl
padded-length base (suc k) n = omega (arith, length-append (padded k base (n / base)) (digit_byte (n % base) ∷ []), padded-length base k (n / base))

-- the byte of a digit is no byte that is none
digit_byte-never : (c : ℕ) → hex_digit c ≡ None → (d : ℕ) → d < 16 → digit_byte d ≡ c → ⊥
digit_byte-never c other d h e = let back = hex_digit-back d h in let z : ◌≡◌ {A = ℕ} 0 1 = cc in omega arith

module _ (base : ℕ) (two : 1 < base) (small : base ≤ 16) where
  last-small : (n : ℕ) → n % base < 16
  last-small n = omega (arith, mod-lt n {m = base} (omega arith))

  value-digits : (n : ℕ) → value_from base 0 (digits base n) ≡ Some n
  unfolding value_from bind
  value-digits =
      digits-made base two (λ (n : ℕ) (xs : List ℕ). value_from base 0 xs ≡ Some n)
      (λ n h. rw (digit-back base n small h) (ap Some (omega (arith, zero-mul base))))
      (λ n xs h e. value-last base n xs (omega arith) small e)

  -- digits read back
  pub numeral-digits : (n : ℕ) → numeral base (digits base n) ≡ Some n
  numeral-digits n = numeral-value base (digits base n) (digits-some base two n) ∙ value-digits n

  pub numeral_up_to-digits : (max n : ℕ) → n ≤ max → numeral_up_to base max (digits base n) ≡ Some n
  numeral_up_to-digits max n h = ap (below (max + 1)) (numeral-digits n) ∙ below-yes (max + 1) n (omega arith)

  pub digits-each : (P : ℕ → Type 0) → ((d : ℕ) → d < 16 → P (digit_byte d)) → (n : ℕ) → Each P (digits base n)
  digits-each P each =
      digits-made base two (λ (n : ℕ) (xs : List ℕ). Each P xs)
      (λ n h. each_last P [] (digit_byte n) (λ k l. absurd (omega arith)) (each n (omega arith)))
      (λ n xs h e. each_last P xs (digit_byte (n % base)) e (each (n % base) (last-small n)))

  pub padded-each : (P : ℕ → Type 0) → ((d : ℕ) → d < 16 → P (digit_byte d)) → (k n : ℕ) → Each P (padded k base n)
  unfolding padded
  padded-each P each zero n = λ k l. absurd (omega arith)
  padded-each P each (suc k) n =
      each_last P (padded k base (n / base)) (digit_byte (n % base)) (padded-each P each k (n / base)) (each (n % base) (last-small n))

  -- a byte that is no digit is not among them
  pub digits-never : (c : ℕ) → hex_digit c ≡ None → (n : ℕ) → Each (λ (b : ℕ). b ≡ c → ⊥) (digits base n)
  digits-never c other = digits-each (λ (b : ℕ). b ≡ c → ⊥) (digit_byte-never c other)

  pub padded-never : (c : ℕ) → hex_digit c ≡ None → (k n : ℕ) → Each (λ (b : ℕ). b ≡ c → ⊥) (padded k base n)
  padded-never c other = padded-each (λ (b : ℕ). b ≡ c → ⊥) (digit_byte-never c other)

  value-padded : (k n : ℕ) → n < base ^ k → value_from base 0 (padded k base n) ≡ Some n
  unfolding padded value_from
  value-padded zero n h = ap Some (omega (arith, pow-zero base))
  value-padded (suc k) n h =
      let low : n < base ^ k * base = omega (arith, pow-suc base k) in
      let pos : 0 < base = omega arith in
      let less : n / base < base ^ k = (div-lt_iff_lt-mul pos).1 low in
      value-last base n (padded k base (n / base)) pos small (value-padded k (n / base) less)

  -- the last k digits read back, where there are no more
  pub numeral-padded : (k n : ℕ) → n < base ^ suc k → numeral base (padded (suc k) base n) ≡ Some n
  numeral-padded k n h =
      numeral-value base (padded (suc k) base n) (omega (arith, padded-length base (suc k) n)) ∙ value-padded (suc k) n h

-- ---- the bases and numbers that are written

pub hex-length : (n : ℕ) → n < 65536 → length (digits 16 n) ≤ 4
hex-length n h = digits-length 16 (omega arith) 3 n h

pub decimal-length : (n : ℕ) → n < 256 → length (digits 10 n) ≤ 3
decimal-length n h = digits-length 10 (omega arith) 2 n (omega arith)

pub hex-byte-back : (b : ℕ) → b < 256 → numeral 16 (padded 2 16 b) ≡ Some b
hex-byte-back b h = numeral-padded 16 (omega arith) (omega arith) 1 b h

-- where two digits lie in a text, they are read there
pub hex_byte_at-lies : (t : List ℕ) (i b : ℕ) → b < 256 → Lies t i (padded 2 16 b) → hex_byte_at t i ≡ Some b
unfolding padded
hex_byte_at-lies t i b h lies =
    ap₂ (λ (x y : ℕ). numeral 16 (x ∷ y ∷ [])) (ap (byte t) (sym (add-zero i)) ∙ lies 0 (omega arith)) (lies 1 (omega arith))
    ∙ hex-byte-back b h

is_hex-digits : (n : ℕ) → is_hex (digits 10 n) ≡ false
unfolding hex_digit
is_hex-digits n =
    let t = digits 10 n in
    let other : byte t 1 ≡ code "x" → ⊥ =
    λ e. elim (dec_lt 1 (length t)) [
      | yes h ↦ digits-never 10 (omega arith) (omega arith) (code "x") refl n 1 h e
      | no h ↦ omega (arith, byte_past t 1 (omega arith))
    ] in
    rw (ne_eqb (byte t 1) (code "x") other) (and_no (eqb (byte t 0) (code "0")))
  where
    and_no : (b : Bool) → (b && false) ≡ false
    and_no true = refl
    and_no false = refl

pub number_digits : (n : ℕ) → number (digits 10 n) ≡ Some n
unfolding number
number_digits n = rw (is_hex-digits n) (numeral-digits 10 (omega arith) (omega arith) n)

pub number_up_to-digits : (max n : ℕ) → n ≤ max → number_up_to max (digits 10 n) ≡ Some n
number_up_to-digits max n h = ap (below (max + 1)) (number_digits n) ∙ below-yes (max + 1) n (omega arith)

-- ---- digits put into room

-- one digit
pub puts_first : {t u : List ℕ} {at m b d : ℕ} → Puts t u at m (b ∷ []) → b ≡ d → Puts t u at m (d ∷ [])
puts_first p e = puts-same p (ap (λ (x : ℕ). x ∷ []) e)

-- one digit more
pub puts-last : {t u v : List ℕ} {at m n : ℕ} {xs : List ℕ} {b d : ℕ} → Puts t u at m xs → Puts u v m n (b ∷ []) → b ≡ d
    → Puts t v at n (xs ++ (d ∷ []))
puts-last p q e = puts-append p (puts_first q e)
