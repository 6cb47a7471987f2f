-- Worked tables and the lines they tell, by computation: as one list under one theorem.
use Rattle.std.specs.Prelude.{◌≡◌, refl, true, false, List, [], ◌∷◌, ◌++◌, map, ℕ, take}
use Prim.Native.String.{String}
use Rattle.octets.specs.Octets.{le16, zeros, checksum, write}
use Rattle.text.specs.Put.{ascii}
use Rattle.record_text.specs.Tell.{table_text}
use Rattle.record_text.specs.Computing.{computing}

-- bench case 5, byte for byte: Target 0 alone, flags 1, CHAP name `depot7`, reverse name `7`
case5 : List ℕ
case5 =
    0x69 ∷ 0x42 ∷ 0x46 ∷ 0x54 ∷ 0x85 ∷ 0 ∷ 0 ∷ 0 ∷ 1 ∷ 0x42 ∷ (zeros 38
    ++ (1 ∷ 1 ∷ 0x12 ∷ (zeros 9
    ++ (0x48 ∷ (zeros 11
    ++ (4 ∷ 1 ∷ 0x36 ∷ 0 ∷ 0 ∷ 1 ∷ (zeros 32
    ++ (6 ∷ 0 ∷ 0x7E ∷ 0 ∷ 0 ∷ 0 ∷ 0 ∷ 0 ∷ 1 ∷ 0 ∷ 0x83 ∷ (zeros 5
    ++ (0x64 ∷ 0x65 ∷ 0x70 ∷ 0x6F ∷ 0x74 ∷ 0x37 ∷ 0 ∷ []))))))))))

-- bytes changed at a place, and the sum mended
changed : ℕ → List ℕ → List ℕ → List ℕ
changed at bytes t = write (write t at bytes) 9 (checksum (write t at bytes) 9 ∷ [])

-- a table of NIC 0 alone: flags 7, prefix 24, the first DNS address, VLAN 70, MAC address, PCI word
nic : List ℕ
nic =
    changed 4 (174 ∷ [])
    (write (take 72 case5) 58 (le16 72 ++ le16 0)
    ++ (3 ∷ 1 ∷ 102 ∷ 0 ∷ 0 ∷ 7 ∷ (zeros 16 ++ (24 ∷ (zeros 17
    ++ (0x20 ∷ 1 ∷ 0x0D ∷ 0xB8 ∷ (zeros 11 ++ (0x53 ∷ (zeros 32
    ++ (le16 70 ++ (2 ∷ 0 ∷ 0x5E ∷ 0x10 ∷ 0 ∷ 7 ∷ (le16 0x19 ++ zeros 4))))))))))))

-- the same with a target of Index 2 at 176, in an extra word
extra : List ℕ
extra = changed 4 (230 ∷ []) (write (write nic 50 (20 ∷ [])) 66 (le16 176) ++ (0 ∷ 0 ∷ 4 ∷ 1 ∷ 54 ∷ 0 ∷ 2 ∷ 1 ∷ zeros 48))

-- .. with NICs of Index 200, at 176, and of Index 5, at 280, in extra words
extras : List ℕ
extras =
    changed 4 (le16 382)
    (write (write nic 50 (22 ∷ [])) 66 (le16 176 ++ le16 280) ++ (0 ∷ 0 ∷ 3 ∷ 1 ∷ 102 ∷ 0 ∷ 200 ∷ 1 ∷ (zeros 98 ++ (3 ∷ 1 ∷ 102 ∷ 0 ∷ 5 ∷ 2 ∷ zeros 96))))

-- case 5 with two secrets: the CHAP secret `t7`, and an empty reverse secret
secrets : List ℕ
secrets = changed 114 (2 ∷ 0 ∷ 130 ∷ 0 ∷ []) (changed 122 (0 ∷ 0 ∷ 132 ∷ 0 ∷ []) case5)

-- a table and its text
record Case : Type 0 where
  table : List ℕ
  text : List (List ℕ)

tells : List ℕ → List String → Case
tells t lines = record { table = t; text = map (λ (s : String). ascii s) lines }

cases : List Case
cases =
    tells case5 ("control multi" ∷ "target0.flags valid" ∷ "target0.port 0" ∷ "target0.chap-name depot7" ∷ "target0.reverse-name 7" ∷ [])
    -- a string that is present and empty
    ∷ tells (changed 106 (0 ∷ 0 ∷ 132 ∷ 0 ∷ []) case5)
    ("control multi" ∷ "target0.flags valid" ∷ "target0.port 0" ∷ "target0.name \"\"" ∷ "target0.chap-name depot7" ∷ "target0.reverse-name 7" ∷ [])
    -- an OEM ID, single login, no flags, an address, a port, a LUN
    ∷ tells
    (changed 10 (ascii "METTA") (changed 53 (1 ∷ []) (changed 77 (0 ∷ (zeros 10 ++ (255 ∷ 255 ∷ 192 ∷ 168 ∷ 70 ∷ 35 ∷ (le16 3260 ++ (7 ∷ [])))))
    case5)))
    ("oem.id METTA" ∷ "control single" ∷ "target0.flags none" ∷ "target0.address 192.168.70.35" ∷ "target0.port 3260" ∷ "target0.lun 7"
    ∷ "target0.chap-name depot7" ∷ "target0.reverse-name 7" ∷ [])
    ∷ tells nic
    ("control multi" ∷ "nic0.flags valid selected global" ∷ "nic0.prefix 24" ∷ "nic0.dns1 2001:db8::53" ∷ "nic0.vlan 70" ∷ "nic0.mac 02:00:5e:10:00:07"
    ∷ "nic0.pci 00:03.1" ∷ [])
    -- an extra target, by its Index
    ∷ tells extra
    ("control multi" ∷ "nic0.flags valid selected global" ∷ "nic0.prefix 24" ∷ "nic0.dns1 2001:db8::53" ∷ "nic0.vlan 70" ∷ "nic0.mac 02:00:5e:10:00:07"
    ∷ "nic0.pci 00:03.1" ∷ "target2.flags valid" ∷ "target2.port 0" ∷ [])
    -- two extra NICs, the higher Index in the first word: by Index
    ∷ tells extras
    ("control multi" ∷ "nic0.flags valid selected global" ∷ "nic0.prefix 24" ∷ "nic0.dns1 2001:db8::53" ∷ "nic0.vlan 70" ∷ "nic0.mac 02:00:5e:10:00:07"
    ∷ "nic0.pci 00:03.1" ∷ "nic5.flags selected" ∷ "nic200.flags valid" ∷ [])
    -- the same structure as Target 1
    ∷ tells (changed 60 (0 ∷ 0 ∷ 0 ∷ 0 ∷ 72 ∷ 0 ∷ []) (changed 76 (1 ∷ []) case5))
    ("control multi" ∷ "target1.flags valid" ∷ "target1.port 0" ∷ "target1.chap-name depot7" ∷ "target1.reverse-name 7" ∷ [])
    ∷ tells secrets
    ("control multi" ∷ "target0.flags valid" ∷ "target0.port 0" ∷ "target0.chap-name depot7" ∷ "target0.chap-secret t7" ∷ "target0.reverse-name 7"
    ∷ "target0.reverse-secret \"\"" ∷ [])
    -- a table that the check refuses
    ∷ tells (write case5 9 (0 ∷ [])) []
    ∷ tells (take 132 case5) []
    ∷ []

-- each line ends in a line feed
ended : List (List ℕ) → List ℕ
ended [] = []
ended (l ∷ ls) = l ++ (10 ∷ ended ls)

all_told : map (λ (c : Case). table_text false c.table) cases ≡ map (λ (c : Case). ended c.text) cases
unfolding computing case5 changed nic extra extras secrets tells cases ended
all_told = refl

-- with secrets hidden a comment stands in place of each; a table without any is told as ever
hidden-told : map (table_text true) (secrets ∷ case5 ∷ take 132 case5 ∷ [])
    ≡ ended
    (ascii "control multi" ∷ ascii "target0.flags valid" ∷ ascii "target0.port 0" ∷ ascii "target0.chap-name depot7" ∷ ascii "# target0.chap-secret is hidden"
    ∷ ascii "target0.reverse-name 7" ∷ ascii "# target0.reverse-secret is hidden" ∷ [])
    ∷ ended
    (ascii "control multi" ∷ ascii "target0.flags valid" ∷ ascii "target0.port 0" ∷ ascii "target0.chap-name depot7" ∷ ascii "target0.reverse-name 7" ∷ [])
    ∷ [] ∷ []
unfolding computing case5 changed secrets ended
hidden-told = refl
