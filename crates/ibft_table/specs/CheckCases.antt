-- Worked tables and the verdict of each, by computation: as one list under one theorem.
use Rattle.std.specs.Prelude.{◌≡◌, refl, List, [], ◌∷◌, ◌++◌, map, ℕ, zero, suc, ◌+◌, ◌-◌, length, take}
use Rattle.octets.specs.Octets.{le16, le32, zeros, checksum, write}
use Rattle.ibft_layout.specs.Layout.{control, control_at, control_end, word_at, kind_of, index_of, chap_at}
use Rattle.ibft_table.specs.Check.{check_of}
use Rattle.ibft_table.specs.Computing.{computing}
use Rattle.table_header.specs.Verdict.{refusal, Verdict, Accepted, Refused}

-- a table of n bytes in which nothing is present: header, Control, zero bytes
unfoldable pub blank : ℕ → List ℕ
blank n =
    0x69 ∷ 0x42 ∷ 0x46 ∷ 0x54 ∷ (le32 n ++ (1 ∷ (zeros (control_at - 9)
    ++ (control.id ∷ control.version ∷ (le16 control.length ++ zeros (n - control_at - 4))))))

-- slot k's structure put at `start`: its Control word, its first bytes, its flags
unfoldable pub place : ℕ → ℕ → ℕ → List ℕ → List ℕ
place k start flags t =
    write (write t (word_at k) (le16 start)) start
    ((kind_of k).id ∷ (kind_of k).version ∷ (le16 (kind_of k).length ++ (index_of k ∷ flags ∷ [])))

-- the words of a string: its length and its offset
unfoldable pub words : ℕ → ℕ → ℕ → List ℕ → List ℕ
words at size offset t = write t at (le16 size ++ le16 offset)

-- the checksum set right
unfoldable pub sealed : List ℕ → List ℕ
sealed t = write t 9 (checksum t 9 ∷ [])

-- one byte changed, the sum mended
changed : ℕ → ℕ → List ℕ → List ℕ
changed at byte t = sealed (write t at (byte ∷ []))

bare : List ℕ
bare = sealed (blank (control_end 0))

-- bench case 5: Target 0 alone, flags 1, CHAP name `depot7`, reverse name `7`
case5 : List ℕ
case5 =
    sealed
    (write (words 118 1 131 (words 110 6 126 (place 2 72 1 (blank 133)))) 126 (0x64 ∷ 0x65 ∷ 0x70 ∷ 0x6F ∷ 0x74 ∷ 0x37 ∷ []))

-- NIC 0 and Target 0 share bytes, the initiator and NIC 1 too
crossed : List ℕ
crossed = sealed (place 3 192 0 (place 0 176 0 (place 2 96 0 (place 1 72 0 (blank 294)))))

-- n letters
letters : ℕ → List ℕ
letters zero = []
letters (suc n) = 0x61 ∷ letters n

-- slot k alone, at 72, with one string: its words stand at `at` of the structure, its bytes behind it
alone : ℕ → ℕ → List ℕ → List ℕ
alone k at string =
    let end = 72 + (kind_of k).length in
    sealed (write (words (72 + at) (length string) end (place k 72 1 (blank (end + length string + 1)))) end string)

-- Target 0 with a name, or a CHAP name, of n letters; NIC 0 with a host name
named : ℕ → List ℕ
named n = alone 2 34 (letters n)

chap_named : ℕ → List ℕ
chap_named n = alone 2 38 (letters n)

hosted : List ℕ → List ℕ
hosted name = alone 1 98 name

record Case : Type 0 where
  table : List ℕ
  verdict : Verdict

accepts : List ℕ → Case
accepts t = record { table = t; verdict = Accepted }

refuses : ℕ → ℕ → List ℕ → Case
refuses number place t = record { table = t; verdict = Refused (refusal number place) }

-- refused with 6: the byte that would be right at 9
wrong_sum : ℕ → List ℕ → Case
wrong_sum byte t = record { table = t; verdict = Refused (record { number = 6; place = 9; checksum = byte }) }

cases : List Case
cases =
    accepts bare
    ∷ accepts case5
    ∷ refuses 3 0 (take 47 bare)
    ∷ refuses 4 0 (changed 0 0x49 case5)
    ∷ refuses 5 4 (take 132 case5)
    -- one byte has become 1, and 1 less would be right at 9; the byte that stands there does not count, nor do bytes lent past
    -- Length; 6 comes before the 7 of a Revision of 2; the right byte may be 0
    ∷ wrong_sum 65 (write case5 20 (1 ∷ []))
    ∷ wrong_sum 66 (write case5 9 (7 ∷ []))
    ∷ wrong_sum 65 (write case5 20 (1 ∷ []) ++ (9 ∷ []))
    ∷ wrong_sum 65 (write case5 8 (2 ∷ []))
    ∷ wrong_sum 0 (write case5 20 (66 ∷ []))
    ∷ refuses 7 8 (changed 8 2 case5)
    ∷ refuses 8 10 (changed 12 0x41 case5)
    -- Control's ID, version, Length (odd, above 42, past the table) and Index
    ∷ refuses 9 48 (changed 48 2 case5)
    ∷ refuses 9 48 (changed 49 0 case5)
    ∷ refuses 9 48 (changed 50 19 case5)
    ∷ refuses 9 48 (changed 50 44 case5)
    ∷ refuses 9 48 (changed 50 20 bare)
    ∷ refuses 9 48 (changed 52 1 case5)
    -- three extra words, not used; with a fourth Control ends behind 72, where Target 0 starts
    ∷ accepts (changed 50 24 case5)
    ∷ refuses 12 60 (changed 50 26 case5)
    ∷ refuses 10 77 (changed 77 0x11 case5)
    ∷ refuses 11 54 (changed 54 1 case5)
    ∷ refuses 12 60 (changed 61 0xFF case5)
    -- Target 0 with the Index of Target 1
    ∷ refuses 13 72 (changed 76 1 case5)
    ∷ refuses 19 104 (changed (72 + chap_at) 3 case5)
    ∷ refuses 14 60 crossed
    ∷ refuses 15 110 (changed 112 125 case5)
    -- length 0 with another offset is present and empty, and no zero byte stands there
    ∷ refuses 16 110 (changed 110 0 case5)
    -- names of 223 and 224 bytes, CHAP names of 255 and 256
    ∷ accepts (named 223)
    ∷ refuses 17 106 (named 224)
    ∷ accepts (chap_named 255)
    ∷ refuses 17 110 (chap_named 256)
    -- bench case 11: `a.` is good, `a.b.` is not; nor is a present empty host name
    ∷ accepts (hosted (0x61 ∷ 0x2E ∷ []))
    ∷ refuses 18 170 (hosted (0x61 ∷ 0x2E ∷ 0x62 ∷ 0x2E ∷ []))
    ∷ refuses 18 170 (hosted [])
    ∷ []

judged : map (λ (c : Case). check_of c.table) cases ≡ map (λ (c : Case). c.verdict) cases
unfolding computing blank place words sealed changed bare case5 crossed letters alone named chap_named hosted accepts refuses wrong_sum cases
judged = refl
