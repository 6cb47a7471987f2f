-- Worked cases by computation: texts and the addresses that they are, texts that are none, and addresses as they are written.
use Rattle.octets.specs.Options.{bind}
use Rattle.std.specs.Prelude.{ℕ, ◌/◌, ◌%◌, ◌≡◌, refl, List, [], ◌∷◌, map, None, Some}
use Rattle.text.specs.Put.{ascii}
use Rattle.octets.specs.Computing.{computing as octets}
use Rattle.text.specs.Split.{before, pieces_by, join}
use Rattle.notation.specs.Number.{hex_digit, below, digit, value_from, numeral, digit_byte, digits_within, digits}
use Rattle.notation.specs.Address.{
  read_address,
  address_text,
  short,
  bytes_of,
  decimal,
  four_bytes,
  group,
  last_group,
  groups,
  side,
  gap_at,
  with_gap,
  without_gap,
  read_six,
  zero_run,
  longest,
  groups_text,
  four_text,
  six_text,
  is_mapped,
}

-- one name that opens every definition on the way; it says nothing
unfoldable pub computing : ℕ
unfolding octets bind before pieces_by join hex_digit below digit value_from numeral digit_byte digits_within digits read_address
    address_text short bytes_of decimal four_bytes group last_group groups side gap_at with_gap without_gap read_six zero_run longest
    groups_text four_text six_text is_mapped
computing = 0

-- an address by its eight groups
eight : ℕ → ℕ → ℕ → ℕ → ℕ → ℕ → ℕ → ℕ → List ℕ
eight a b c d e f g h =
    a / 256 ∷ a % 256 ∷ b / 256 ∷ b % 256 ∷ c / 256 ∷ c % 256 ∷ d / 256 ∷ d % 256
    ∷ e / 256 ∷ e % 256 ∷ f / 256 ∷ f % 256 ∷ g / 256 ∷ g % 256 ∷ h / 256 ∷ h % 256 ∷ []

-- texts that are read, and their addresses
reads : map read_address (
    ascii "192.168.70.50"
    ∷ ascii "1.02.003.255"
    ∷ ascii "::"
    ∷ ascii "::1"
    ∷ ascii "2001:db8::53"
    ∷ ascii "2001:DB8::53"
    ∷ ascii "1:2:3:4:5:6:7:8"
    ∷ ascii "1:2:3:4:5:6:1.2.3.4"
    ∷ ascii "::ffff:1.2.3.4"
    ∷ ascii "1::2:3:4:5:6:7"
    ∷ [])
    ≡ map Some (
    eight 0 0 0 0 0 0xffff 0xc0a8 0x4632
    ∷ eight 0 0 0 0 0 0xffff 0x0102 0x03ff
    ∷ eight 0 0 0 0 0 0 0 0
    ∷ eight 0 0 0 0 0 0 0 1
    ∷ eight 0x2001 0xdb8 0 0 0 0 0 0x53
    ∷ eight 0x2001 0xdb8 0 0 0 0 0 0x53
    ∷ eight 1 2 3 4 5 6 7 8
    ∷ eight 1 2 3 4 5 6 0x0102 0x0304
    ∷ eight 0 0 0 0 0 0xffff 0x0102 0x0304
    ∷ eight 1 0 2 3 4 5 6 7
    ∷ [])
unfolding computing eight
reads = refl

-- texts that are no address
bad : List (List ℕ)
bad =
    ascii ""
    ∷ ascii "1.2.3"
    ∷ ascii "1.2.3.4.5"
    ∷ ascii "1.2.3.256"
    ∷ ascii "1.2.3.0004"
    ∷ ascii "1..2.3"
    ∷ ascii "1.2.3.4 "
    ∷ ascii ":"
    ∷ ascii ":::"
    ∷ ascii "1::2::3"
    ∷ ascii ":1::2"
    ∷ ascii "1::2:"
    ∷ ascii "12345::"
    ∷ ascii "1.2.3.4::"
    ∷ ascii "1:2:3:4:5:6:7"
    ∷ ascii "1:2:3:4:5:6:7:8:9"
    ∷ ascii "1:2:3:4::5:6:7:8"
    ∷ ascii "g::"
    ∷ []

refuses : map read_address bad ≡ map (λ (t : List ℕ). None) bad
unfolding computing bad
refuses = refl

-- addresses as they are written
writes : map address_text (
    eight 0 0 0 0 0 0xffff 0xc0a8 0x4632
    ∷ eight 0 0 0 0 0 0 0 0
    ∷ eight 0 0 0 0 0 0 0 1
    ∷ eight 0x2001 0xdb8 0 0 0 0 0 0x53
    ∷ eight 1 0 0 2 0 0 3 4
    ∷ eight 1 0 0 2 0 0 0 4
    ∷ eight 1 0 0 2 0 0 0 0
    ∷ eight 1 0 3 4 5 6 7 0
    ∷ eight 0 0 0 0 0 0xfffe 0xabcd 0x10
    ∷ [])
    ≡ ascii "192.168.70.50"
    ∷ ascii "::"
    ∷ ascii "::1"
    ∷ ascii "2001:db8::53"
    ∷ ascii "1::2:0:0:3:4"
    ∷ ascii "1:0:0:2::4"
    ∷ ascii "1:0:0:2::"
    ∷ ascii "1:0:3:4:5:6:7:0"
    ∷ ascii "::fffe:abcd:10"
    ∷ []
unfolding computing eight
writes = refl
