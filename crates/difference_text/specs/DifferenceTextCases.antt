-- Worked differences and their lines, by computation: as one list, told whole and with secrets hidden.
use Rattle.std.specs.Prelude.{◌≡◌, refl, true, false, List, [], ◌∷◌, ◌++◌, map, ℕ, length}
use Prim.Native.String.{String}
use Rattle.octets.specs.Counting.{first}
use Rattle.octets.specs.Octets.{le16, zeros}
use Rattle.text.specs.Put.{ascii}
use Rattle.table_header.specs.Verdict.{refusal}
use Rattle.record_text.specs.Computing.{computing}
use Rattle.ibft_compare.specs.declared.difference.Difference.{Difference}
use Rattle.ibft_compare.specs.declared.difference.Difference.TheVariants.{Nothing, OemId, OemTableId, ControlFlags, Presence, Field, Entry}
use Rattle.ibft_compare.specs.declared.difference.Stretch.{Stretch}
use Rattle.ibft_compare.specs.declared.difference.DifferenceReading.{DifferenceReading}
use Rattle.difference_text.specs.DifferenceText.{field_number, hidden_name, with_value, both_values, only_in, shown_text, field_line}
use Rattle.difference_text.specs.DifferenceText.{presence_line, held_line, differs_line, entry_line, line_of, difference_text}

-- ---- tables made for it: the bytes that differ stand at 8

table : List ℕ → List ℕ
table bytes = zeros 8 ++ bytes

stretch : ℕ → ℕ → Stretch
stretch start size = record { start = start; length = size }

held : List ℕ → Stretch
held bytes = stretch 8 (length bytes)

gone : Stretch
gone = stretch 0 0

-- ---- a difference, its line, and its line where secrets are hidden

record Case : Type 0 where
  left : List ℕ
  right : List ℕ
  reading : DifferenceReading
  whole : String
  hidden : String

reading : Difference → Stretch → Stretch → Stretch → DifferenceReading
reading x left right shown =
    record { refusal = refusal 0 0; side = 0; difference = x; left = left; right = right; shown = shown }

-- a field that both tables have
field : Difference → List ℕ → List ℕ → String → Case
field x l r line =
    record { left = table l; right = table r; reading = reading x (held l) (held r) gone; whole = line; hidden = line }

-- .. and an entry, with the bytes shown
entry : Difference → List ℕ → List ℕ → Stretch → String → String → Case
entry x l r shown line hidden =
    record { left = table l; right = table r; reading = reading x (held l) (held r) shown; whole = line; hidden = hidden }

-- what one table has
in_left : Difference → List ℕ → String → String → Case
in_left x l line hidden =
    record { left = table l; right = []; reading = reading x (held l) gone gone; whole = line; hidden = hidden }

in_right : Difference → List ℕ → String → String → Case
in_right x r line hidden =
    record { left = []; right = table r; reading = reading x gone (held r) gone; whole = line; hidden = hidden }

ipv4 : List ℕ
ipv4 = zeros 10 ++ (255 ∷ 255 ∷ 192 ∷ 168 ∷ 70 ∷ 35 ∷ [])

cases : List Case
cases =
    field OemId (ascii "METTA" ++ zeros 1) (ascii "DEPOT" ++ zeros 1) "oem.id METTA\t| DEPOT\n"
    ∷ field OemTableId (ascii "CABINET7") (zeros 8) "oem.table CABINET7\t| \"\"\n"
    ∷ field ControlFlags (1 ∷ []) (0 ∷ []) "control single\t| multi\n"
    ∷ in_left (Presence 3 1) (zeros 102) "nic1\tonly in LEFT\n" "nic1\tonly in LEFT\n"
    ∷ in_right (Presence 4 255) (zeros 54) "target255\tonly in RIGHT\n" "target255\tonly in RIGHT\n"
    ∷ in_right (Presence 2 0) (zeros 74) "initiator\tonly in RIGHT\n" "initiator\tonly in RIGHT\n"
    -- fields of a structure: a port, an extra target's NIC, flags, an address, a MAC address
    ∷ field (Field 4 0 22) (le16 3260) (le16 3261) "target0.port 3260\t| 3261\n"
    ∷ field (Field 4 255 33) (0 ∷ []) (5 ∷ []) "target255.nic 0\t| 5\n"
    ∷ field (Field 3 0 5) (7 ∷ []) (0 ∷ []) "nic0.flags valid selected global\t| none\n"
    ∷ field (Field 4 0 6) ipv4 (zeros 16) "target0.address 192.168.70.35\t| ::\n"
    ∷ field (Field 3 12 90) (2 ∷ 0 ∷ 0x5E ∷ 0x10 ∷ 0 ∷ 7 ∷ []) (zeros 6) "nic12.mac 02:00:5e:10:00:07\t| 00:00:00:00:00:00\n"
    -- strings: the last byte differs; the left one ends first
    ∷ entry (Entry 4 0 38) (ascii "depot7") (ascii "depot8") (stretch 13 1)
    "target0.chap-name depot7\t| depot8\tfrom byte 5: 7\n"
    "target0.chap-name depot7\t| depot8\tfrom byte 5: 7\n"
    ∷ entry (Entry 3 1 98) (ascii "depot") (ascii "depot.7") (stretch 13 0) "nic1.host depot\t| depot.7\tfrom byte 5: \"\"\n"
    "nic1.host depot\t| depot.7\tfrom byte 5: \"\"\n"
    ∷ in_left (Entry 2 0 70) (ascii "iqn") "initiator.name iqn\tonly in LEFT\n" "initiator.name iqn\tonly in LEFT\n"
    -- secrets: one that both have, one that is empty, one that the right table has
    ∷ entry (Entry 4 0 42) (ascii "tin7") (ascii "tan7") (stretch 9 3) "target0.chap-secret tin7\t| tan7\tfrom byte 1: in7\n"
    "# target0.chap-secret\tdiffers, hidden\n"
    ∷ in_left (Entry 4 0 50) [] "target0.reverse-secret \"\"\tonly in LEFT\n" "# target0.reverse-secret\tonly in LEFT\n"
    ∷ in_right (Entry 4 1 42) (ascii "tin7") "target1.chap-secret tin7\tonly in RIGHT\n" "# target1.chap-secret\tonly in RIGHT\n"
    ∷ field Nothing [] [] ""
    ∷ []

all_told : map (λ (c : Case). difference_text false c.left c.right c.reading) cases
    ≡ map (λ (c : Case). ascii c.whole) cases
unfolding computing first field_number hidden_name with_value both_values only_in shown_text field_line presence_line held_line
    differs_line entry_line line_of difference_text table stretch held gone reading field entry in_left in_right ipv4 cases
all_told = refl

hidden-told : map (λ (c : Case). difference_text true c.left c.right c.reading) cases
    ≡ map (λ (c : Case). ascii c.hidden) cases
unfolding computing first field_number hidden_name with_value both_values only_in shown_text field_line presence_line held_line
    differs_line entry_line line_of difference_text table stretch held gone reading field entry in_left in_right ipv4 cases
hidden-told = refl
