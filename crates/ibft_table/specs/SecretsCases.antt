-- Worked tables with secrets, by computation: Target 0 alone at 72, its heap from 126 on. The check accepts each, whoever
-- shares.
use Rattle.std.specs.Prelude.{◌≡◌, refl, Bool, true, false, List, [], ◌∷◌, map, ℕ, ◌+◌}
use Rattle.octets.specs.Octets.{write}
use Rattle.ibft_table.specs.Check.{check_of}
use Rattle.ibft_table.specs.Secrets.{secrets_apart}
use Rattle.ibft_table.specs.CheckCases.{blank, place, words, sealed}
use Rattle.ibft_table.specs.Computing.{computing}
use Rattle.table_header.specs.Verdict.{Verdict, Accepted}

-- a string of Target 0: where its words stand in the structure, its length, its offset
record String : Type 0 where
  at : ℕ
  size : ℕ
  offset : ℕ

-- Target 0's strings, by name
name : ℕ → ℕ → String
name size offset = record { at = 34; size = size; offset = offset }

secret : ℕ → ℕ → String
secret size offset = record { at = 42; size = size; offset = offset }

reverse-name : ℕ → ℕ → String
reverse-name size offset = record { at = 46; size = size; offset = offset }

reverse-secret : ℕ → ℕ → String
reverse-secret size offset = record { at = 50; size = size; offset = offset }

-- Target 0 with these strings over a heap of these bytes, n of them
heaped : List String → List ℕ → ℕ → List ℕ
heaped [] heap n = write (place 2 72 1 (blank (126 + n))) 126 heap
heaped (s ∷ ss) heap n = words (72 + s.at) s.size s.offset (heaped ss heap n)

record Case : Type 0 where
  table : List ℕ
  verdict : Verdict
  apart : Bool

a_case : List String → List ℕ → ℕ → Bool → Case
a_case strings heap n apart = record { table = sealed (heaped strings heap n); verdict = Accepted; apart = apart }

-- `depot7` with its zero; and `depot7`, `7`, each with its zero
one : List ℕ
one = 0x64 ∷ 0x65 ∷ 0x70 ∷ 0x6F ∷ 0x74 ∷ 0x37 ∷ 0 ∷ []

two : List ℕ
two = 0x64 ∷ 0x65 ∷ 0x70 ∷ 0x6F ∷ 0x74 ∷ 0x37 ∷ 0 ∷ 0x37 ∷ 0 ∷ []

cases : List Case
cases =
    -- a secret that is the tail of a name, equals it, or has its own bytes behind it
    a_case (name 6 126 ∷ secret 1 131 ∷ []) one 7 false
    ∷ a_case (name 6 126 ∷ secret 6 126 ∷ []) one 7 false
    ∷ a_case (name 6 126 ∷ secret 1 133 ∷ []) two 9 true
    -- a name that is the tail of a secret
    ∷ a_case (name 1 131 ∷ secret 6 126 ∷ []) one 7 false
    -- two secrets
    ∷ a_case (secret 6 126 ∷ reverse-secret 6 126 ∷ []) one 7 false
    ∷ a_case (secret 6 126 ∷ reverse-secret 1 133 ∷ []) two 9 true
    -- an empty secret at another's zero, and at a zero of its own
    ∷ a_case (name 6 126 ∷ reverse-secret 0 132 ∷ []) one 7 false
    ∷ a_case (name 6 126 ∷ reverse-secret 0 133 ∷ []) one 8 true
    -- an empty name at a secret's zero
    ∷ a_case (secret 6 126 ∷ reverse-name 0 132 ∷ []) one 7 false
    -- names may share, beside a secret that does not
    ∷ a_case (name 6 126 ∷ reverse-name 1 131 ∷ secret 1 133 ∷ []) two 9 true
    -- one secret, none, no strings at all
    ∷ a_case (secret 6 126 ∷ []) one 7 true
    ∷ a_case (name 6 126 ∷ reverse-name 6 126 ∷ []) one 7 true
    ∷ a_case [] [] 0 true
    ∷ []

cases-hold : map (λ (c : Case). record { table = c.table; verdict = check_of c.table; apart = secrets_apart c.table }) cases ≡ cases
unfolding computing blank place words sealed name secret reverse-name reverse-secret heaped a_case one two cases
cases-hold = refl
