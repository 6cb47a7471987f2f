-- Laws of PCI addresses as they are written: a PCI word's text has each part where it is read, and the parts make the word.
--     or-bits                  a number shifted left and bits below it, joined by `|`, are a sum
--     device_function-small     device and function are a byte
--     pci-back                 the text of a word is read as that word
-- Assumes nothing.
use Rattle.octets.specs.Options.{bind}
use Rattle.std.proofs.lemmas.Option.{none-some}
use Rattle.std.specs.Prelude.{Option, None, Some, option_map}
use mathlib.Core.Path.{◌≡◌, refl, ap}
use mathlib.Core.List.{List}
use Prim.Native.Nat.{ℕ, ◌+◌, ◌*◌, ◌/◌, ◌%◌, ◌^◌, ◌<◌}
use native.Mathlib.Omega.{arith}
use lib.Bits.{bit_or, or_shifted}
use Rattle.octets.specs.Octets.{byte}
use Rattle.notation.specs.Number.{below, digit, hex_byte_at, padded}
use Rattle.notation.specs.Pci.{pci_form, device_function, read_pci, pci_text}
use Rattle.notation.proofs.NumberLaws.{hex-byte-back, digit-back, digit-below, below-yes, below-some}

pub or-bits : (a k b : ℕ) → a * 2 ^ k < 2 ^ 64 → b < 2 ^ k → bit_or (a * 2 ^ k % 2 ^ 64) b ≡ a * 2 ^ k + b
or-bits a k b fits low =
    let whole : a * 2 ^ k % 2 ^ 64 ≡ a * 2 ^ k = omega arith in
    rw whole (or_shifted a k b low)

pub device_function-small : (t : List ℕ) (n : ℕ) → device_function t ≡ Some n → n < 256
unfolding device_function bind
device_function-small t n =
    go (below 32 (hex_byte_at t 3)) (digit 8 (byte t 6)) (λ d e. (below-some 32 d (hex_byte_at t 3) e).1) (digit-below 8 (byte t 6))
  where
    go : (o p : Option ℕ) → ((d : ℕ) → o ≡ Some d → d < 32) → ((f : ℕ) → p ≡ Some f → f < 8)
        → bind o (λ (d : ℕ). option_map (λ (f : ℕ). d * 8 + f) p) ≡ Some n → n < 256
    go None p device function e = absurd (none-some n e)
    go (Some d) None device function e = absurd (none-some n e)
    go (Some d) (Some f) device function e =
        let value : d * 8 + f ≡ n = cc in
        omega (arith, device d refl, function f refl)

pub pci-back : (w : ℕ) → w < 65536 → read_pci (pci_text w) ≡ Some w
unfolding read_pci pci_text pci_form device_function bind padded
pci-back w h =
    rw (
      hex-byte-back (w / 256) (omega arith),
      hex-byte-back (w / 8 % 32) (omega arith),
      below-yes 32 (w / 8 % 32) (omega arith),
      digit-back 8 (w % 8) (omega arith) (omega arith),
    ) (ap Some (omega arith))
