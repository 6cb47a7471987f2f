-- Worked texts and what they are read as, by computation: the answers as one list under one theorem, and the example of
-- docs/RECORD-FORMAT.md, part by part.
use Rattle.std.specs.Prelude.{◌≡◌, refl, List, [], ◌∷◌, ◌++◌, map, ℕ, ◌+◌, length}
use Prim.Native.String.{String}
use Rattle.octets.specs.Octets.{zeros, part}
use Rattle.text.specs.Put.{ascii}
use Rattle.text.specs.Split.{join}
use Rattle.ibft_build_rules.specs.RecordRange.{largest_size, named_image}
use Rattle.record_text.specs.Enter.{no_field, no_such_field, given_before, unreadable, too_long, no_room, too_many, Answer, answer_of, entered_from}
use Rattle.record_text.specs.Computing.{computing}
use Rattle.record_text.specs.declared.fields.FieldName.{FieldName}

-- lines with a line feed between each two
text : List String → List ℕ
text lines = join 10 (map (λ (s : String). ascii s) lines)

-- ---- answers, with 8 bytes for strings

record Case : Type 0 where
  text : List ℕ
  answer : Answer

-- a text that is read: how many bytes its strings and its range have
sized : ℕ → ℕ → List ℕ → Case
sized used size t = record { text = t; answer = record { reason = 0; line = 0; field = no_field; used = used; size = size } }

-- .. without extras
reads : ℕ → List ℕ → Case
reads used t = sized used 421 t

-- one that is not: why, at which line, and the field that the line names
field : ℕ → ℕ → ℕ → FieldName
field kind index n = record { kind = kind; index = index; field = n }

stops : ℕ → ℕ → FieldName → ℕ → ℕ → List ℕ → Case
stops reason line field used size t = record { text = t; answer = record { reason = reason; line = line; field = field; used = used; size = size } }

cases : List Case
cases =
    reads 0 []
    ∷ reads 0 (text ("# nothing" ∷ "" ∷ "  " ∷ "control single" ∷ "" ∷ []))
    -- blanks at the ends, the carriage return among them
    ∷ reads 0 (9 ∷ (ascii "control   multi" ++ (13 ∷ 10 ∷ ascii "#")))
    ∷ stops no_such_field 2 no_field 0 421 (text ("#" ∷ "nic256.flags valid" ∷ []))
    -- an Index is written as it is told
    ∷ stops no_such_field 1 no_field 0 421 (text ("nic02.flags valid" ∷ []))
    ∷ stops no_such_field 1 no_field 0 421 (text ("nic0x2.flags valid" ∷ []))
    ∷ stops no_such_field 1 no_field 0 421 (text ("nic.flags valid" ∷ []))
    ∷ stops no_such_field 1 no_field 0 421 (text ("initiator0.flags valid" ∷ []))
    ∷ stops no_such_field 1 no_field 0 421 (text ("control. single" ∷ []))
    ∷ stops no_such_field 1 no_field 0 421 (text ("nic0 valid" ∷ []))
    ∷ stops given_before 4 (field 1 0 0) 0 421 (text ("control single" ∷ "" ∷ "# again" ∷ "control single" ∷ "nic256.flags" ∷ []))
    -- no value
    ∷ stops unreadable 1 (field 1 0 0) 0 421 (text ("control" ∷ []))
    ∷ stops unreadable 1 (field 3 0 2) 0 421 (text ("nic0.prefix 256" ∷ []))
    ∷ stops unreadable 1 (field 2 0 5) 0 421 (text ("initiator.name a\\b" ∷ []))
    ∷ stops too_long 1 (field 0 0 0) 0 421 (text ("oem.id METTA77" ∷ []))
    ∷ reads 8 (text ("initiator.name 12345678" ∷ []))
    ∷ stops no_room 1 (field 2 0 5) 0 421 (text ("initiator.name 123456789" ∷ []))
    ∷ stops no_room 2 (field 4 1 10) 7 421 (text ("initiator.name 1234567" ∷ "target1.reverse-secret \\x20\\x20" ∷ []))
    -- extras, in any order; the same line of two of them; a field given twice
    ∷ sized 3 583 (text ("target9.name abc" ∷ "nic255.prefix 24" ∷ "nic1.prefix 1" ∷ []))
    ∷ sized 0 627 (text ("nic3.prefix 24" ∷ "nic2.prefix 24" ∷ []))
    ∷ stops given_before 3 (field 3 3 2) 0 627 (text ("nic3.prefix 24" ∷ "nic2.prefix 24" ∷ "nic3.prefix 25" ∷ []))
    -- a seventh of a kind, at its first line
    ∷ stops too_many 7 (field 3 2 8) 0 1039
    (text ("nic9.vlan 1" ∷ "nic8.vlan 1" ∷ "nic7.vlan 1" ∷ "nic6.vlan 1" ∷ "nic5.vlan 1" ∷ "nic4.vlan 1" ∷ "nic2.vlan 1" ∷ "nic2.vlan 2" ∷ []))
    -- a secret that was hidden is not given
    ∷ reads 6 (text ("target0.chap-name depot7" ∷ "# target0.chap-secret is hidden" ∷ []))
    -- an empty string takes no room
    ∷ reads 8 (text ("initiator.name 12345678" ∷ "target1.reverse-secret \"\"" ∷ []))
    ∷ []

judged : map (λ (c : Case). answer_of (entered_from c.text (zeros largest_size) (zeros 8))) cases ≡ map (λ (c : Case). c.answer) cases
unfolding computing text sized reads field stops cases
judged = refl

-- ---- the example of the format

cabinet : List ℕ
cabinet =
    text
    ("# Cabinet 7, operator North"
    ∷ "oem.id              METTA"
    ∷ "oem.table           CABINET7"
    ∷ ""
    ∷ "control             single"
    ∷ ""
    ∷ "initiator.flags     valid selected"
    ∷ "initiator.name      iqn.2026-11.example:cabinet7"
    ∷ ""
    ∷ "nic0.flags          valid selected global"
    ∷ "nic0.address        192.168.70.50"
    ∷ "nic0.prefix         24"
    ∷ "nic0.gateway        192.168.70.1"
    ∷ "nic0.dns1           2001:db8::53"
    ∷ "nic0.mac            02:00:5e:10:00:07"
    ∷ "nic0.pci            00:03.1"
    ∷ "nic0.host           cabinet7.example"
    ∷ ""
    ∷ "target0.flags       valid selected"
    ∷ "target0.address     192.168.70.35"
    ∷ "target0.port        3260"
    ∷ "target0.lun         1"
    ∷ "target0.chap        mutual"
    ∷ "target0.nic         0"
    ∷ "target0.name        iqn.2026-11.example:depot7"
    ∷ "target0.chap-name   depot7"
    ∷ "target0.chap-secret a secret of \\xfcber 12 bytes"
    ∷ "target0.reverse-name 7"
    ∷ "target0.reverse-secret \"\""
    ∷ [])

-- its strings, one behind another
strings : List ℕ
strings =
    ascii "iqn.2026-11.example:cabinet7" ++ (ascii "cabinet7.example" ++ (ascii "iqn.2026-11.example:depot7" ++ (ascii "depot7"
    ++ (ascii "a secret of " ++ (0xfc ∷ (ascii "ber 12 bytes" ++ ascii "7"))))))

-- bytes of the record range, and where they stand
record Piece : Type 0 where
  at : ℕ
  bytes : List ℕ

piece : ℕ → List ℕ → Piece
piece at bytes = record { at = at; bytes = bytes }

-- an IPv4-mapped address
mapped : List ℕ → List ℕ
mapped four = zeros 10 ++ (255 ∷ 255 ∷ four)

pieces : List Piece
pieces =
    piece 0 (ascii "METTA" ++ (0 ∷ ascii "CABINET7"))
    -- Control's flags; the marks of the structures, then of the strings
    ∷ piece 14 (1 ∷ 1 ∷ 1 ∷ 1 ∷ 0 ∷ 0 ∷ 1 ∷ 1 ∷ 1 ∷ 1 ∷ 1 ∷ 1 ∷ 1 ∷ zeros 6)
    -- the initiator: flags, no addresses, the name's length and start
    ∷ piece (named_image 0) (zeros 5 ++ (3 ∷ (zeros 64 ++ (28 ∷ 0 ∷ 0 ∷ 0 ∷ []))))
    -- NIC 0: flags, address, prefix, origin, gateway, first DNS address
    ∷ piece (named_image 1 + 5) (7 ∷ (mapped (192 ∷ 168 ∷ 70 ∷ 50 ∷ []) ++ (24 ∷ 0 ∷ (mapped (192 ∷ 168 ∷ 70 ∷ 1 ∷ [])
    ++ (0x20 ∷ 1 ∷ 0x0d ∷ 0xb8 ∷ (zeros 11 ++ (0x53 ∷ [])))))))
    -- MAC address, PCI address, the host name's length and start
    ∷ piece (named_image 1 + 90) (2 ∷ 0 ∷ 0x5e ∷ 0x10 ∷ 0 ∷ 7 ∷ 0x19 ∷ 0 ∷ 16 ∷ 0 ∷ 28 ∷ 0 ∷ [])
    -- Target 0: flags, address, port, LUN, CHAP type, NIC; the strings
    ∷ piece (named_image 2 + 5) (3 ∷ (mapped (192 ∷ 168 ∷ 70 ∷ 35 ∷ []) ++ (0xbc ∷ 0x0c ∷ 1 ∷ (zeros 7 ++ (2 ∷ 0 ∷ [])))))
    ∷ piece (named_image 2 + 34) (26 ∷ 0 ∷ 44 ∷ 0 ∷ 6 ∷ 0 ∷ 70 ∷ 0 ∷ 25 ∷ 0 ∷ 76 ∷ 0 ∷ 1 ∷ 0 ∷ 101 ∷ 0 ∷ 0 ∷ 0 ∷ 102 ∷ 0 ∷ [])
    -- what is not given: NIC 1 with flags `valid selected`, Target 1 with its port too
    ∷ piece (named_image 3) (zeros 5 ++ (3 ∷ zeros 96))
    ∷ piece (named_image 4) (zeros 5 ++ (3 ∷ (zeros 16 ++ (0xbc ∷ 0x0c ∷ zeros 30))))
    ∷ []

cabinet-answer : answer_of (entered_from cabinet (zeros largest_size) (zeros 102)) ≡ record { reason = 0; line = 0; field = no_field; used = 102; size = 421 }
unfolding computing text cabinet
cabinet-answer = refl

cabinet-strings : (entered_from cabinet (zeros largest_size) (zeros 102)).draft.strings ≡ strings
unfolding computing text cabinet strings
cabinet-strings = refl

cabinet-range : map (λ (p : Piece). part (entered_from cabinet (zeros largest_size) (zeros 102)).draft.range p.at (length p.bytes)) pieces
    ≡ map (λ (p : Piece). p.bytes) pieces
unfolding computing text cabinet piece mapped pieces
cabinet-range = refl
