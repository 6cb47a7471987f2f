-- The text of an address, read, is the address. Each group and each decimal number is read back; joined texts are taken apart
-- again; the first `::` of a text is where it was put, since groups never have a colon in them and none is empty; and what it
-- stands for is zero.
--     address-back                       the text of an address, read, is the address
--     text-length, text-some, text-lacks a text has 1 to 39 bytes, and in it is no byte but digits, dots and colons
--     longest-zero                       the longest run lies within the groups, and its groups are zero
-- Assumes nothing.
use Rattle.std.specs.Prelude.{Option, Some}
use mathlib.Core.Path.{◌≡◌, refl, sym, ap, ap₂, ◌∙◌}
use mathlib.Core.Bool.{Bool, true, false, cond, ◌&&◌, and-false}
use mathlib.Core.List.{List, [], ◌∷◌, ◌++◌, append_assoc, append-nil}
use Prim.Native.Nat.{ℕ, zero, suc, ◌+◌, ◌-◌, ◌*◌, ◌/◌, ◌%◌, ◌≤◌, ◌<◌, ◌^◌}
use native.Mathlib.Nat.{add-zero, zero-add}
use native.Mathlib.Omega.{arith}
use borrow.Author.Tests.{lt-ltb, le-ltb, ltb-true, le-leb, eq-eqb, ne_eqb, eqb-true}
use lib.ListN.{length, length-append}
use lib.Seq.{take_all, take-append_seam, drop-append-add}
use lib.Dec.{eqb, leb, ltb}
use Rattle.octets.specs.Counting.{first, any, tabulate, gather}
use Rattle.octets.specs.Octets.{byte, zeros, bytes_at, bytes_past, differs}
use Rattle.octets.proofs.CountingLaws.{first-le, first_below, any_none}
use Rattle.octets.proofs.ReadLaws.{bytes-part, part-whole}
use Rattle.octets.proofs.TestLaws.{and_both, differs-no}
use Rattle.text.specs.Split.{is, each, lacks, join}
use Rattle.notation.specs.Number.{digit_byte, digits}
use Rattle.notation.specs.Address.{
  dot,
  colon,
  holds,
  both,
  short,
  one_byte,
  two_bytes,
  bytes_of,
  decimal,
  four_bytes,
  group,
  last_group,
  groups,
  side,
  gap_at,
  with_gap,
  without_gap,
  read_six,
  mapped,
  read_address,
  group_at,
  zero_run,
  longest,
  groups_text,
  four_text,
  six_text,
  is_mapped,
  address_text,
}
use Rattle.notation.specs.declared.address.Run.{Run}
use Rattle.notation.proofs.NumberLaws.{numeral-digits, digits-length, digits-some, digits-each, below-yes}
use Rattle.notation.proofs.PieceLaws.{lacks-front, lacks-each, pieces-listed, holds-no, holds-yes, lacks-append, lacks-join, join-some, join-length}

-- ---- one number

-- a byte that no digit is, is in no number
digits-lack : (base : ℕ) → 1 < base → base ≤ 16 → (p : ℕ → Bool) → any 16 (λ (d : ℕ). p (digit_byte d)) ≡ false → (v : ℕ)
    → lacks p (digits base v) ≡ true
digits-lack base low high p other v =
    lacks-each p (digits base v) (digits-each base low high (λ (b : ℕ). p b ≡ false) (any_none 16 (λ (d : ℕ). p (digit_byte d)) other) v)

dot-none : any 16 (λ (d : ℕ). is dot (digit_byte d)) ≡ false
unfolding any first tabulate digit_byte
dot-none = refl

colon-none : any 16 (λ (d : ℕ). is colon (digit_byte d)) ≡ false
unfolding any first tabulate digit_byte
colon-none = refl

short_back : (base most max v : ℕ) → 1 < base → base ≤ 16 → v < base ^ suc most → v ≤ max → short base (suc most) max (digits base v) ≡ Some v
unfolding short
short_back base most max v low high small least =
    rw (le-leb (length (digits base v)) (suc most) (digits-length base low most v small), numeral-digits base low high v)
    (below-yes (max + 1) v (omega arith))

decimal-back : (v : ℕ) → v < 256 → decimal (digits 10 v) ≡ Some (v ∷ [])
unfolding decimal
decimal-back v h = ap one_byte (short_back 10 2 255 v (omega arith) (omega arith) (omega arith) (omega arith))

group-back : (v : ℕ) → v < 65536 → group (digits 16 v) ≡ Some (v / 256 ∷ v % 256 ∷ [])
unfolding group
group-back v h = ap two_bytes (short_back 16 3 65535 v (omega arith) (omega arith) (omega arith) (omega arith))

last-back : (four : Bool) (v : ℕ) → v < 65536 → last_group four (digits 16 v) ≡ Some (v / 256 ∷ v % 256 ∷ [])
unfolding last_group
last-back four v h =
    rw (holds-no dot (digits 16 v) (digits-lack 16 (omega arith) (omega arith) (is dot) dot-none v), and-false four) (group-back v h)

-- ---- a list of numbers

bytes_of-tabulate : (rule last : List ℕ → Option (List ℕ)) (d e : ℕ → List ℕ) → ((j : ℕ) → rule (d j) ≡ Some (e j)) → ((j : ℕ) → last (d j) ≡ Some (e j))
    → (k n : ℕ) → bytes_of rule last (tabulate d k (suc n)) ≡ Some (gather e k (suc n))
unfolding bytes_of tabulate gather
bytes_of-tabulate rule last d e one end k zero = end k ∙ ap Some (sym (append-nil (e k)))
bytes_of-tabulate rule last d e one end k (suc n) = ap₂ both (one k) (bytes_of-tabulate rule last d e one end (suc k) n)

-- ---- the first `::`

gap_step : (b : ℕ) (t : List ℕ) → (eqb b colon && eqb (byte t 0) colon) ≡ false → gap_at (b ∷ t) ≡ suc (gap_at t)
unfolding gap_at first
gap_step b t e = ap (λ (c : Bool). cond c 0 (suc (first (length t) (λ (k : ℕ). eqb (byte t k) colon && eqb (byte t (suc k)) colon)))) e

gap-lacks : (x y : List ℕ) → lacks (is colon) x ≡ true → gap_at (x ++ y) ≡ length x + gap_at y
gap-lacks [] y e = omega arith
gap-lacks (b ∷ x) y e =
    let h = lacks-front (is colon) b x e in
    let here : (eqb b colon && eqb (byte (x ++ y) 0) colon) ≡ false = rw h.0 in
    omega (arith, gap_step b (x ++ y) here, gap-lacks x y h.1)

gap-empty : gap_at [] ≡ 0
unfolding gap_at first
gap-empty = refl

gap-here : (t : List ℕ) → gap_at (colon ∷ colon ∷ t) ≡ 0
unfolding gap_at first
gap-here t = refl

start-lacks : (x y : List ℕ) → 1 ≤ length x → lacks (is colon) x ≡ true → eqb (byte (x ++ y) 0) colon ≡ false
start-lacks [] y h e = absurd (omega arith)
start-lacks (b ∷ x) y h e = (lacks-front (is colon) b x e).0

module _ (d : ℕ → List ℕ) (clean : (j : ℕ) → lacks (is colon) (d j) ≡ true) (some_byte : (j : ℕ) → 1 ≤ length (d j)) where
  start-join : (k n : ℕ) (y : List ℕ) → eqb (byte (join colon (tabulate d k (suc n)) ++ y) 0) colon ≡ false
  unfolding join tabulate
  start-join k zero y = start-lacks (d k) y (some_byte k) (clean k)
  start-join k (suc n) y = rw append_assoc (start-lacks (d k) _ (some_byte k) (clean k))

  gap-join : (k n : ℕ) (y : List ℕ) → gap_at (join colon (tabulate d k n) ++ y) ≡ length (join colon (tabulate d k n)) + gap_at y
  unfolding join tabulate
  gap-join k zero y = omega arith
  gap-join k (suc zero) y = gap-lacks (d k) y (clean k)
  gap-join k (suc (suc n)) y =
      let rest = join colon (tabulate d (suc k) (suc n)) in
      let here : gap_at (colon ∷ (rest ++ y)) ≡ suc (gap_at (rest ++ y)) = gap_step colon (rest ++ y) (start-join (suc k) n y) in
      rw append_assoc
      (omega (arith, gap-lacks (d k) (colon ∷ (rest ++ y)) (clean k), here, gap-join (suc k) (suc n) y, length-append (d k) (colon ∷ rest)))

-- ---- the longest run lies within the groups and is zero

pub record ZeroRun (a : List ℕ) (k n : ℕ) (r : Run) : Type 0 where
  pub from : k ≤ r.start
  pub within : r.start + r.size ≤ k + n
  pub zero-groups : (j : ℕ) → r.start ≤ j → j < r.start + r.size → group_at a j ≡ 0

zero_run-le : (a : List ℕ) (k n : ℕ) → zero_run a k n ≤ n
unfolding zero_run
zero_run-le a k n = first-le n (λ (j : ℕ). differs (group_at a (k + j)) 0)

zero_run-zero : (a : List ℕ) (k n j : ℕ) → k ≤ j → j < k + zero_run a k n → group_at a j ≡ 0
unfolding zero_run
zero_run-zero a k n j low high =
    let place : k + (j - k) ≡ j = omega arith in
    rw place at (differs-no (group_at a (k + (j - k))) 0 (first_below n (λ (i : ℕ). differs (group_at a (k + i)) 0) (j - k) (omega arith)))

pub longest-zero : (a : List ℕ) (k n : ℕ) → ZeroRun a k n (longest a k n)
unfolding longest
longest-zero a k zero = record { from = omega arith; within = omega arith; zero-groups = λ j low high. absurd (omega arith) }
longest-zero a k (suc n) = go (leb (longest a (suc k) n).size (zero_run a k (suc n))) (longest-zero a (suc k) n)
  where
    here : Run
    here = record { start = k; size = zero_run a k (suc n) }

    go : (b : Bool) → ZeroRun a (suc k) n (longest a (suc k) n) → ZeroRun a k (suc n) (cond b here (longest a (suc k) n))
    go true later = record { from = omega arith; within = omega (arith, zero_run-le a k (suc n)); zero-groups = zero_run-zero a k (suc n) }
    go false later = record { from = omega (arith, later.from); within = omega (arith, later.within); zero-groups = later.zero-groups }

-- ---- the three forms of a text: IPv4, IPv6 with `::`, IPv6 without

-- IPv6 with `::` for the run r
abbrev gap_text : List ℕ → Run → List ℕ
gap_text a r = groups_text a 0 r.start ++ (colon ∷ colon ∷ groups_text a (r.start + r.size) (8 - (r.start + r.size)))

text-cases : (a : List ℕ) (P : List ℕ → Type 0) → (is_mapped a ≡ true → P (four_text a)) → ((r : Run) → ZeroRun a 0 8 r → 1 < r.size → P (gap_text a r))
    → P (groups_text a 0 8) → P (address_text a)
unfolding address_text six_text
text-cases a P four gap plain = go (is_mapped a) refl (ltb 1 (longest a 0 8).size) refl
  where
    go : (m : Bool) → is_mapped a ≡ m → (g : Bool) → ltb 1 (longest a 0 8).size ≡ g
        → P (cond m (four_text a) (cond g (gap_text a (longest a 0 8)) (groups_text a 0 8)))
    go true e g f = four e
    go false e true f = gap (longest a 0 8) (longest-zero a 0 8) (ltb-true 1 (longest a 0 8).size f)
    go false e false f = plain

-- ---- an address

gather_append : (f : ℕ → List ℕ) (k n m : ℕ) → gather f k (n + m) ≡ gather f k n ++ gather f (k + n) m
unfolding gather
gather_append f k zero m = rw (zero-add m, add-zero k)
gather_append f k (suc n) m =
    let count : suc n + m ≡ suc (n + m) = omega arith in
    let place : suc k + n ≡ k + suc n = omega arith in
    rw (count, gather_append f (suc k) n m, place, append_assoc (f k) (gather f (suc k) n) (gather f (k + suc n) m))

-- the two bytes of group j
unfoldable pub two : List ℕ → ℕ → List ℕ
two a j = byte a (2 * j) ∷ byte a (2 * j + 1) ∷ []

length_two : (a : List ℕ) (k n : ℕ) → length (gather (two a) k n) ≡ 2 * n
unfolding gather two
length_two a k zero = refl
length_two a k (suc n) = omega (arith, length_two a (suc k) n)

zero-two : (a : List ℕ) (k n : ℕ) → ((j : ℕ) → k ≤ j → j < k + n → group_at a j ≡ 0) → gather (two a) k n ≡ zeros (2 * n)
unfolding gather two zeros
zero-two a k zero h = refl
zero-two a k (suc n) h =
    let e = h k (omega arith) (omega arith) in
    let high : byte a (2 * k) ≡ 0 = omega arith in
    let low : byte a (2 * k + 1) ≡ 0 = omega arith in
    let count : 2 * suc n ≡ suc (suc (2 * n)) = omega arith in
    rw (count, high, low, zero-two a (suc k) n (λ j l m. h j (omega arith) (omega arith)))

-- the texts of group j and of byte j
abbrev hex_text : List ℕ → ℕ → List ℕ
hex_text a j = digits 16 (group_at a j)

abbrev decimal_text : List ℕ → ℕ → List ℕ
decimal_text a j = digits 10 (byte a j)

module _ (a : List ℕ) where
  hex-lacks : (p : ℕ → Bool) → any 16 (λ (d : ℕ). p (digit_byte d)) ≡ false → (j : ℕ) → lacks p (hex_text a j) ≡ true
  hex-lacks p other j = digits-lack 16 (omega arith) (omega arith) p other (group_at a j)

  decimal-lacks : (p : ℕ → Bool) → any 16 (λ (d : ℕ). p (digit_byte d)) ≡ false → (j : ℕ) → lacks p (decimal_text a j) ≡ true
  decimal-lacks p other j = digits-lack 10 (omega arith) (omega arith) p other (byte a j)

  hex-some : (j : ℕ) → 1 ≤ length (hex_text a j)
  hex-some j = digits-some 16 (omega arith) (group_at a j)

module _ (a : List ℕ) (size : length a ≡ 16) (small : (i : ℕ) → byte a i < 256) where
  -- the 16 bytes by their groups
  whole : gather (two a) 0 8 ≡ a
  unfolding gather two bytes_past
  whole =
      let listed : gather (two a) 0 8 ≡ bytes_at a 0 16 = refl in
      listed ∙ bytes-part a 0 16 (omega arith) ∙ part-whole a 16 ∙ take_all 16 a (omega arith)

  group-lt : (j : ℕ) → group_at a j < 65536
  group-lt j = omega (arith, small (2 * j), small (2 * j + 1))

  halves : (j : ℕ) → Some (group_at a j / 256 ∷ group_at a j % 256 ∷ []) ≡ Some (two a j)
  unfolding two
  halves j =
      let high : group_at a j / 256 ≡ byte a (2 * j) = omega (arith, small (2 * j + 1)) in
      let low : group_at a j % 256 ≡ byte a (2 * j + 1) = omega (arith, small (2 * j + 1)) in
      rw (high, low)

  groups-back : (four : Bool) (k n : ℕ) → groups four (groups_text a k (suc n)) ≡ Some (gather (two a) k (suc n))
  unfolding groups groups_text
  groups-back four k n =
      rw (pieces-listed colon (hex_text a) (hex-lacks a (is colon) colon-none) k n)
      (bytes_of-tabulate group (last_group four) (hex_text a) (two a)
      (λ j. group-back (group_at a j) (group-lt j) ∙ halves j)
      (λ j. last-back four (group_at a j) (group-lt j) ∙ halves j) k n)

  side-back : (four : Bool) (k n : ℕ) → side four (groups_text a k n) ≡ Some (gather (two a) k n)
  unfolding side groups_text gather join tabulate
  side-back four k zero = refl
  side-back four k (suc n) =
      rw (ne_eqb (length (groups_text a k (suc n))) 0 (λ e. omega (arith, join-some colon (hex_text a) (hex-some a) k n)))
      (groups-back four k n)

  gap-groups : (k n : ℕ) (y : List ℕ) → gap_at (groups_text a k n ++ y) ≡ length (groups_text a k n) + gap_at y
  unfolding groups_text
  gap-groups k n y = gap-join (hex_text a) (hex-lacks a (is colon) colon-none) (hex-some a) k n y

  -- IPv6 without `::`
  no_gap : gap_at (groups_text a 0 8) ≡ length (groups_text a 0 8)
  no_gap = omega (arith, rw append-nil at (gap-groups 0 8 []), gap-empty)

  has-colon : holds colon (groups_text a 0 8) ≡ true
  unfolding groups_text join tabulate
  has-colon = holds-yes colon (digits 16 (group_at a 0)) (groups_text a 1 7)

  plain_back : read_address (groups_text a 0 8) ≡ Some a
  unfolding read_address read_six without_gap
  plain_back =
      rw (
        has-colon,
        le-ltb (gap_at (groups_text a 0 8)) (length (groups_text a 0 8)) (omega (arith, no_gap)),
        groups-back true 0 7,
        eq-eqb (length (gather (two a) 0 8)) 16 (length_two a 0 8),
        whole,
      )

  -- IPv6 with `::` for the run r
  gap_back : (r : Run) → ZeroRun a 0 8 r → 1 < r.size
      → read_address (gap_text a r) ≡ Some a
  unfolding read_address read_six with_gap
  gap_back r z long =
      rw (
        holds-yes colon front (colon ∷ back),
        place,
        lt-ltb (length front) (length text) inside,
        take-append_seam front (colon ∷ colon ∷ back),
        drop-append-add front (colon ∷ colon ∷ back) 2,
        side-back false 0 r.start,
        side-back true (r.start + r.size) left,
        length_two a 0 r.start,
        length_two a (r.start + r.size) left,
        le-leb (2 * r.start + 2 * left) 14 (omega (arith, z.within)),
        gap-size,
        ← zero-two a r.start r.size z.zero-groups,
        ← gather_append (two a) r.start r.size left,
      )
      (ap Some (sym parts ∙ ap (gather (two a) 0) all ∙ whole))
    where
      left : ℕ
      left = 8 - (r.start + r.size)

      front : List ℕ
      front = groups_text a 0 r.start

      back : List ℕ
      back = groups_text a (r.start + r.size) left

      text : List ℕ
      text = front ++ (colon ∷ colon ∷ back)

      place : gap_at text ≡ length front
      place = omega (arith, gap-groups 0 r.start (colon ∷ colon ∷ back), gap-here back)

      inside : length front < length text
      inside = omega (arith, length-append front (colon ∷ colon ∷ back))

      gap-size : 16 - (2 * r.start + 2 * left) ≡ 2 * r.size
      gap-size = omega (arith, z.within)

      parts : gather (two a) 0 (r.start + (r.size + left)) ≡ gather (two a) 0 r.start ++ gather (two a) r.start (r.size + left)
      parts = rw zero-add at (gather_append (two a) 0 r.start (r.size + left))

      all : r.start + (r.size + left) ≡ 8
      all = omega (arith, z.within)

  -- IPv4-mapped
  unfoldable one : ℕ → List ℕ
  one j = byte a j ∷ []

  four-back : four_bytes (four_text a) ≡ Some (gather one 12 4)
  unfolding four_bytes four_text gather one
  four-back =
      rw (
        pieces-listed dot (decimal_text a) (decimal-lacks a (is dot) dot-none) 12 3,
        bytes_of-tabulate decimal decimal (decimal_text a) one (λ j. decimal-back (byte a j) (small j)) (λ j. decimal-back (byte a j) (small j)) 12 3,
      )

  four-plain : holds colon (four_text a) ≡ false
  unfolding four_text
  four-plain = holds-no colon (four_text a) (lacks-join dot (decimal_text a) (is colon) refl (decimal-lacks a (is colon) colon-none) 12 4)

  mapped-is : is_mapped a ≡ true → mapped (gather one 12 4) ≡ a
  unfolding is_mapped gather one two
  mapped-is e =
      let tests = and_both (eqb (zero_run a 0 8) 5) (eqb (group_at a 5) 65535) e in
      let run : zero_run a 0 8 ≡ 5 = eqb-true (zero_run a 0 8) 5 tests.0 in
      let front : gather (two a) 0 5 ≡ zeros 10 = zero-two a 0 5 (λ j l m. zero_run-zero a 0 8 j l (omega arith)) in
      let sixth : group_at a 5 ≡ 65535 = eqb-true (group_at a 5) 65535 tests.1 in
      let high : byte a 10 ≡ 255 = omega (arith, small 11, small 10) in
      let low : byte a 11 ≡ 255 = omega (arith, small 11, small 10) in
      sym (sym whole ∙ gather_append (two a) 0 5 3 ∙ ap₂ ◌++◌ front (rest high low))
    where
      rest : byte a 10 ≡ 255 → byte a 11 ≡ 255 → gather (two a) 5 3 ≡ 255 ∷ 255 ∷ gather one 12 4
      rest high low = rw (high, low)

  mapped-back : is_mapped a ≡ true → read_address (four_text a) ≡ Some a
  unfolding read_address
  mapped-back e = rw (four-plain, four-back) (ap Some (mapped-is e))

  -- the text of an address, read, is the address
  pub address-back : read_address (address_text a) ≡ Some a
  address-back = text-cases a (λ (t : List ℕ). read_address t ≡ Some a) mapped-back gap_back plain_back

  -- it has at most 39 bytes
  hex-short : (j : ℕ) → length (hex_text a j) ≤ 4
  hex-short j = digits-length 16 (omega arith) 3 (group_at a j) (group-lt j)

  groups-short : (k n : ℕ) → length (groups_text a k n) ≤ n * 5
  unfolding groups_text join tabulate
  groups-short k zero = omega arith
  groups-short k (suc n) = omega (arith, join-length colon (hex_text a) 4 hex-short k n)

  plain-short : length (groups_text a 0 8) ≤ 39
  unfolding groups_text
  plain-short = join-length colon (hex_text a) 4 hex-short 0 7

  four-short : length (four_text a) ≤ 39
  unfolding four_text
  four-short = omega (arith, join-length dot (decimal_text a) 3 (λ j. digits-length 10 (omega arith) 2 (byte a j) (omega (arith, small j))) 12 3)

  pub text-length : length (address_text a) ≤ 39
  text-length =
      text-cases a (λ (t : List ℕ). length t ≤ 39) (λ e. four-short)
      (λ r z long. let left = 8 - (r.start + r.size) in
      let front = groups_text a 0 r.start in
      let back = groups_text a (r.start + r.size) left in
      omega (arith, z.within, groups-short 0 r.start, groups-short (r.start + r.size) left, length-append front (colon ∷ colon ∷ back)))
      plain-short

-- ---- bytes that are in no address's text, of any list a

module _ (a : List ℕ) where
  -- a byte that is no digit, no dot and no colon; blanks are such
  pub text-lacks : (p : ℕ → Bool) → any 16 (λ (d : ℕ). p (digit_byte d)) ≡ false → p dot ≡ false → p colon ≡ false → lacks p (address_text a) ≡ true
  unfolding groups_text four_text each
  text-lacks p no_digit no-dot no-colon =
      text-cases a (λ (t : List ℕ). lacks p t ≡ true) (λ e. lacks-join dot (decimal_text a) p no-dot (decimal-lacks a p no_digit) 12 4)
      (λ r z long. lacks-append p (groups_text a 0 r.start)
      (colon ∷ colon ∷ groups_text a (r.start + r.size) (8 - (r.start + r.size))) (groups-lack 0 r.start)
      (rw no-colon (groups-lack (r.start + r.size) (8 - (r.start + r.size)))))
      (groups-lack 0 8)
    where
      groups-lack : (k n : ℕ) → lacks p (groups_text a k n) ≡ true
      groups-lack = lacks-join colon (hex_text a) p no-colon (hex-lacks a p no_digit)

  -- there is at least one byte
  pub text-some : 1 ≤ length (address_text a)
  unfolding groups_text four_text
  text-some =
      text-cases a (λ (t : List ℕ). 1 ≤ length t) (λ e. join-some dot (decimal_text a) (λ j. digits-some 10 (omega arith) (byte a j)) 12 3)
      (λ r z long. omega (arith, length-append (groups_text a 0 r.start) (colon ∷ colon ∷ groups_text a (r.start + r.size) (8 - (r.start + r.size)))))
      (join-some colon (hex_text a) (hex-some a) 0 7)
