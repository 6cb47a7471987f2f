-- What the summing promises. Nothing but the promises stands here.
use Rattle.std.specs.Prelude.{◌≡◌, ℕ, ◌%◌, ◌<◌, ◌↔◌, List, length, slice_set}
use Rattle.octets.specs.Octets.{byte, sum, checksum}

-- b is the checksum byte of the bytes t for the place `at`, whatever stands there
pub record ChecksumByte (t : List ℕ) (at b : ℕ) : Type 0 where
  -- it is the definition's
  pub checksum-is : b ≡ checksum t at
  -- it is a byte
  pub small : b < 256
  -- with it at that place, t sums to 0 modulo 256
  pub sums : at < length t → sum (slice_set t at b) % 256 ≡ 0
  -- and with no other byte
  pub only : (c : ℕ) → c < 256 → at < length t → sum (slice_set t at c) % 256 ≡ 0 → c ≡ b
  -- so t sums to 0 modulo 256 exactly where it stands there
  pub stands : byte t at < 256 → (b ≡ byte t at) ↔ (sum t % 256 ≡ 0)
