-- Worked cases by computation: PCI addresses at the edges of each rule.
use Rattle.octets.specs.Options.{bind}
use Rattle.std.specs.Prelude.{◌≡◌, refl, [], ◌∷◌, map, None, Some}
use Rattle.octets.specs.Counting.{tabulate}
use Rattle.text.specs.Put.{ascii}
use Rattle.notation.specs.Number.{hex_digit, below, digit, value_from, numeral, digit_byte, padded}
use Rattle.notation.specs.Pci.{pci_form, device_function, read_pci, pci_text}

good : map read_pci (ascii "00:00.0" ∷ ascii "00:03.1" ∷ ascii "0a:1F.7" ∷ ascii "ff:1f.7" ∷ []) ≡ Some 0 ∷ Some 25 ∷ Some 2815 ∷ Some 65535 ∷ []
unfolding tabulate bind hex_digit below digit value_from numeral pci_form device_function read_pci
good = refl

bad : map read_pci
    (ascii ""
    ∷ ascii "00:03"
    ∷ ascii "0:03.1"
    ∷ ascii "00:20.0"
    ∷ ascii "00:03.8"
    ∷ ascii "00:03.a"
    ∷ ascii "00.03.1"
    ∷ ascii "00:03:1"
    ∷ ascii "0g:03.1"
    ∷ ascii "00:03.11"
    ∷ [])
    ≡ None ∷ None ∷ None ∷ None ∷ None ∷ None ∷ None ∷ None ∷ None ∷ None ∷ []
unfolding tabulate bind hex_digit below digit value_from numeral pci_form device_function read_pci
bad = refl

written : map pci_text (25 ∷ 65535 ∷ []) ≡ ascii "00:03.1" ∷ ascii "ff:1f.7" ∷ []
unfolding tabulate digit_byte padded pci_text
written = refl
