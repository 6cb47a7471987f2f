-- PCI addresses as they are written: bus, device and function, `00:03.1`. Assumes nothing: these are definitions.
use Rattle.octets.specs.Options.{bind}
use Rattle.std.specs.Prelude.{ℕ, ◌+◌, ◌*◌, ◌/◌, ◌%◌, Bool, cond, ◌&&◌, List, [], ◌∷◌, ◌++◌, length, eqb, Option, None, option_map}
use Prim.Native.Char.{code}
use Rattle.octets.specs.Octets.{byte}
use Rattle.notation.specs.Number.{below, digit, hex_byte_at, digit_byte, padded}

-- seven bytes, with a colon behind the bus and a dot behind the device
unfoldable pub pci_form : List ℕ → Bool
pci_form t = eqb (length t) 7 && (eqb (byte t 2) (code ":") && eqb (byte t 5) (code "."))

-- device x 8 + function: two hexadecimal digits up to 1f, and a digit up to 7
unfoldable pub device_function : List ℕ → Option ℕ
device_function t = bind (below 32 (hex_byte_at t 3)) (λ (d : ℕ). option_map (λ (f : ℕ). d * 8 + f) (digit 8 (byte t 6)))

-- the word that the text says: bus x 256 + device x 8 + function
unfoldable pub read_pci : List ℕ → Option ℕ
read_pci t = cond (pci_form t) (bind (hex_byte_at t 0) (λ (b : ℕ). option_map (λ (n : ℕ). b * 256 + n) (device_function t))) None

-- the text of a word below 65536: the bus, then a colon and the device, then a dot and the function
abbrev pub function_text : ℕ → List ℕ
function_text w = code "." ∷ digit_byte (w % 8) ∷ []

abbrev pub device_text : ℕ → List ℕ
device_text w = code ":" ∷ (padded 2 16 (w / 8 % 32) ++ function_text w)

unfoldable pub pci_text : ℕ → List ℕ
pci_text w = padded 2 16 (w / 256) ++ device_text w
