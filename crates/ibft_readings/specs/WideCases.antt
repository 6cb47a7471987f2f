-- Worked tables with extra words, by computation: a Control of 24 bytes with NIC 5 at 72, Target 9 at 176 and Target 255 at
-- 232.
use Rattle.std.specs.Prelude.{◌≡◌, refl, List, [], ◌∷◌, ◌++◌, map, ℕ, ◌-◌}
use Rattle.octets.specs.Octets.{le16, le32, zeros, checksum, write}
use Rattle.ibft_layout.specs.Layout.{Kind, control, nic, target, control_at, word_at}
use Rattle.ibft_table.specs.Table.{starts_of}
use Rattle.ibft_table.specs.Check.{check_of}
use Rattle.ibft_table.specs.Record.{record_of}
use Rattle.ibft_readings.specs.Readings.{structure_of, nic_of, target_of}
use Rattle.ibft_readings.specs.Login.{login_order_of}
use Rattle.ibft_readings.specs.Computing.{computing}
use Rattle.table_header.specs.Verdict.{refusal, accepted, Verdict, Accepted, Refused}

-- a table of n bytes with three extra words, nothing present
blank : ℕ → List ℕ
blank n =
    0x69 ∷ 0x42 ∷ 0x46 ∷ 0x54 ∷ (le32 n ++ (1 ∷ (zeros (control_at - 9)
    ++ (control.id ∷ control.version ∷ (le16 24 ++ zeros (n - control_at - 4))))))

-- a structure of this kind, Index and flags put at `start`, and its start into word w
place : ℕ → Kind → ℕ → ℕ → ℕ → List ℕ → List ℕ
place w kind index flags start t =
    write (write t (word_at w) (le16 start)) start (kind.id ∷ kind.version ∷ (le16 kind.length ++ (index ∷ flags ∷ [])))

sealed : List ℕ → List ℕ
sealed t = write t 9 (checksum t 9 ∷ [])

changed : ℕ → ℕ → List ℕ → List ℕ
changed at byte t = sealed (write t at (byte ∷ []))

-- NIC 5 in word 5, Target 9 in word 6, Target 255 in word 7; and the same in other words
three : List ℕ
three = sealed (place 7 target 255 1 232 (place 6 target 9 0 176 (place 5 nic 5 0 72 (blank 286))))

turned : List ℕ
turned = sealed (place 5 target 255 1 232 (place 7 target 9 0 176 (place 6 nic 5 0 72 (blank 286))))

-- the starts by slot; word order is no part of the record
seats : starts_of three ≡ 0 ∷ 0 ∷ 0 ∷ 0 ∷ 0 ∷ 72 ∷ 0 ∷ 0 ∷ 0 ∷ 0 ∷ 0 ∷ 176 ∷ 232 ∷ 0 ∷ 0 ∷ 0 ∷ 0 ∷ []
unfolding computing blank place sealed three
seats = refl

same-record : record_of turned ≡ record_of three
unfolding computing blank place sealed three turned
same-record = refl

-- callers' slots 5, 6, 7 and 8, by start and refusal; NIC 2 and Target 3 by Index
readings : map (λ (n : ℕ). (structure_of turned n).start) (5 ∷ 6 ∷ 7 ∷ 8 ∷ [])
    ++ ((structure_of turned 8).refusal.number ∷ (nic_of turned 2).index ∷ (target_of turned 3).index ∷ [])
    ≡ 72 ∷ 176 ∷ 232 ∷ 0 ∷ 22 ∷ 5 ∷ 255 ∷ []
unfolding computing blank place sealed turned
readings = refl

-- one valid target, whose Index is 255
login : login_order_of three ≡ record { refusal = accepted; used = 1; places = 255 ∷ 255 ∷ 255 ∷ 255 ∷ 255 ∷ 255 ∷ 255 ∷ 255 ∷ [] }
unfolding computing blank place sealed three
login = refl

record Case : Type 0 where
  table : List ℕ
  verdict : Verdict

accepts : List ℕ → Case
accepts t = record { table = t; verdict = Accepted }

refuses : ℕ → ℕ → List ℕ → Case
refuses number place t = record { table = t; verdict = Refused (refusal number place) }

cases : List Case
cases =
    accepts three
    ∷ accepts turned
    -- the last word cut off: not looked at
    ∷ accepts (changed 50 22 three)
    -- an odd Length, one above 42; with 42 NIC 5 stands below Control's end
    ∷ refuses 9 48 (changed 50 25 three)
    ∷ refuses 9 48 (changed 50 44 three)
    ∷ refuses 12 66 (changed 50 42 three)
    -- six bytes inside Length, and then what they say; too few
    ∷ refuses 13 280 (sealed (write three 66 (le16 280)))
    ∷ refuses 12 66 (sealed (write three 66 (le16 288)))
    -- an initiator's ID; Index 1; a NIC whose end is past Length
    ∷ refuses 13 72 (changed 72 2 three)
    ∷ refuses 13 72 (changed 76 1 three)
    ∷ refuses 12 66 (sealed (place 5 nic 7 255 280 three))
    -- an Index twice, before its flags
    ∷ refuses 33 70 (sealed (place 7 target 9 255 232 three))
    ∷ refuses 10 237 (changed 237 255 three)
    ∷ []

judged : map (λ (c : Case). check_of c.table) cases ≡ map (λ (c : Case). c.verdict) cases
unfolding computing blank place sealed changed three turned accepts refuses cases
judged = refl
