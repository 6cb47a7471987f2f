-- An IP address of 16 bytes and its text. Assumes nothing: these are definitions.
use Rattle.std.specs.Prelude.{List, [], ◌∷◌, ◌++◌, Bool, true, false, cond, ◌&&◌, ℕ, zero, suc, ◌+◌, ◌-◌, ◌*◌, ◌/◌, ◌%◌, length, take, drop, eqb, leb, ltb, Option, None, Some}
use Prim.Native.Char.{code}
use Rattle.octets.specs.Counting.{first, tabulate}
use Rattle.octets.specs.Octets.{byte, zeros, differs}
use Rattle.text.specs.Split.{index_of, pieces, join}
use Rattle.notation.specs.Number.{numeral_up_to, digits}
use Rattle.notation.specs.declared.address.Run.{Run}

-- ---- bytes and tests

-- the dot's byte
abbrev pub dot : ℕ
dot = code "."

-- the colon's byte
abbrev pub colon : ℕ
colon = code ":"

-- whether the byte b is in the text
abbrev pub holds : ℕ → List ℕ → Bool
holds b t = ltb (index_of b t) (length t)

-- ---- reading: the bytes of a text, or `none` where it is not of the form

-- the bytes of two texts, one behind the other; both must have the form
abbrev pub both : Option (List ℕ) → Option (List ℕ) → Option (List ℕ)
both None y = None
both (Some xs) None = None
both (Some xs) (Some ys) = Some (xs ++ ys)

-- exactly n bytes
abbrev pub exactly : ℕ → Option (List ℕ) → Option (List ℕ)
exactly n None = None
exactly n (Some xs) = cond (eqb (length xs) n) (Some xs) None

-- the number of a text of one to `most` digits, where it is at most `max`
unfoldable pub short : ℕ → ℕ → ℕ → List ℕ → Option ℕ
short base most max t = cond (leb (length t) most) (numeral_up_to base max t) None

-- a number as one byte
abbrev pub one_byte : Option ℕ → Option (List ℕ)
one_byte None = None
one_byte (Some v) = Some (v ∷ [])

-- a number as two bytes, the high byte first
abbrev pub two_bytes : Option ℕ → Option (List ℕ)
two_bytes None = None
two_bytes (Some v) = Some (v / 256 ∷ v % 256 ∷ [])

-- the bytes of all pieces, each read by the rule, but the last by a rule of its own
unfoldable pub bytes_of : (List ℕ → Option (List ℕ)) → (List ℕ → Option (List ℕ)) → List (List ℕ) → Option (List ℕ)
bytes_of rule last [] = Some []
bytes_of rule last (p ∷ []) = last p
bytes_of rule last (p ∷ (q ∷ ps)) = both (rule p) (bytes_of rule last (q ∷ ps))

-- one to three decimal digits, up to 255: one byte
unfoldable pub decimal : List ℕ → Option (List ℕ)
decimal p = one_byte (short 10 3 255 p)

-- IPv4: four of these with dots between
unfoldable pub four_bytes : List ℕ → Option (List ℕ)
four_bytes t = exactly 4 (bytes_of decimal decimal (pieces dot t))

-- a group: one to four hexadecimal digits, two bytes
unfoldable pub group : List ℕ → Option (List ℕ)
group p = two_bytes (short 16 4 65535 p)

-- the last group, which may be written as IPv4 is where `four`
unfoldable pub last_group : Bool → List ℕ → Option (List ℕ)
last_group four p = cond (four && holds dot p) (four_bytes p) (group p)

-- groups with colons between
unfoldable pub groups : Bool → List ℕ → Option (List ℕ)
groups four t = bytes_of group (last_group four) (pieces colon t)

-- the same, or nothing: what stands on one side of `::`
unfoldable pub side : Bool → List ℕ → Option (List ℕ)
side four t = cond (eqb (length t) 0) (Some []) (groups four t)

-- the place of the first `::`, or the length where there is none
unfoldable pub gap_at : List ℕ → ℕ
gap_at t = first (length t) (λ (k : ℕ). eqb (byte t k) colon && eqb (byte t (suc k)) colon)

-- the bytes before and behind `::`, at most 14, with zeros between to make them 16
abbrev pub filled : Option (List ℕ) → Option (List ℕ) → Option (List ℕ)
filled None y = None
filled (Some xs) None = None
filled (Some xs) (Some ys) =
    cond (leb (length xs + length ys) 14) (Some (xs ++ (zeros (16 - (length xs + length ys)) ++ ys))) None

-- IPv6 with `::` at place g: before it no IPv4
unfoldable pub with_gap : List ℕ → ℕ → Option (List ℕ)
with_gap t g = filled (side false (take g t)) (side true (drop (g + 2) t))

-- IPv6 without `::`: eight groups, or six and IPv4
unfoldable pub without_gap : List ℕ → Option (List ℕ)
without_gap t = exactly 16 (groups true t)

-- IPv6: the first `::` counts; a second one is an empty group, which has no digit
unfoldable pub read_six : List ℕ → Option (List ℕ)
read_six t = cond (ltb (gap_at t) (length t)) (with_gap t (gap_at t)) (without_gap t)

-- the IPv4-mapped address: ten zeros, 255, 255 and the four bytes
abbrev pub mapped : List ℕ → List ℕ
mapped xs = zeros 10 ++ (255 ∷ 255 ∷ xs)

-- IPv4 as such an address
abbrev pub mapped_four : Option (List ℕ) → Option (List ℕ)
mapped_four None = None
mapped_four (Some xs) = Some (mapped xs)

-- the address that a text is: IPv6 where it holds a colon, IPv4 where it holds none
unfoldable pub read_address : List ℕ → Option (List ℕ)
read_address t = cond (holds colon t) (read_six t) (mapped_four (four_bytes t))

-- ---- writing

-- the k-th of the eight groups of an address
abbrev pub group_at : List ℕ → ℕ → ℕ
group_at a k = 256 * byte a (2 * k) + byte a (2 * k + 1)

-- how many of the n groups from k on are zero before the first that is not
unfoldable pub zero_run : List ℕ → ℕ → ℕ → ℕ
zero_run a k n = first n (λ (j : ℕ). differs (group_at a (k + j)) 0)

-- the longer of two runs of groups, the first where they are equally long
abbrev pub longer : Run → Run → Run
longer r later = cond (leb later.size r.size) r later

-- the first of the longest runs of zero groups among the n groups from k on
unfoldable pub longest : List ℕ → ℕ → ℕ → Run
longest a k zero = record { start = k; size = 0 }
longest a k (suc n) = longer (record { start = k; size = zero_run a k (suc n) }) (longest a (suc k) n)

-- the text of the n groups from k on: small hexadecimal digits without leading zeros, colons between
unfoldable pub groups_text : List ℕ → ℕ → ℕ → List ℕ
groups_text a k n = join colon (tabulate (λ (j : ℕ). digits 16 (group_at a j)) k n)

-- the text of IPv4: the last four bytes in decimal, dots between
unfoldable pub four_text : List ℕ → List ℕ
four_text a = join dot (tabulate (λ (j : ℕ). digits 10 (byte a j)) 12 4)

-- the text of IPv6: a run of two or more zero groups is written `::`
unfoldable pub six_text : List ℕ → Run → List ℕ
six_text a r =
    cond (ltb 1 r.size)
    (groups_text a 0 r.start ++ (colon ∷ colon ∷ groups_text a (r.start + r.size) (8 - (r.start + r.size))))
    (groups_text a 0 8)

-- whether an address is IPv4-mapped: the first five groups are zero and the sixth is ffff
unfoldable pub is_mapped : List ℕ → Bool
is_mapped a = eqb (zero_run a 0 8) 5 && eqb (group_at a 5) 65535

-- the text of an address of 16 bytes: IPv4 where it is mapped, else IPv6 with `::` for the first of the longest runs of zero
-- groups
unfoldable pub address_text : List ℕ → List ℕ
address_text a = cond (is_mapped a) (four_text a) (six_text a (longest a 0 8))
