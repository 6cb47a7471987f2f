-- Tables read and rebuilt, by computation: strings stored twice, a zero byte in a string, a room one byte too small, a table
-- that the check refuses, one whose record takes 4 bytes more in the build's order, and secrets that share bytes; as one list
-- under one theorem.
use Rattle.std.specs.Prelude.{◌≡◌, refl, List, [], ◌∷◌, ◌++◌, map, ℕ, take}
use Rattle.octets.specs.Octets.{le16, le32, zeros, checksum, write}
use Rattle.ibft_build_rules.specs.Rebuild.{rebuild_answer, rebuild_room}
use Rattle.ibft_build_rules.specs.Computing.{computing}

-- ---- tables

-- the header of a table of this Length and Revision; Control with these starts of the initiator and of Target 0; the checksum
-- set last
header : ℕ → ℕ → List ℕ
header size revision = 105 ∷ 66 ∷ 70 ∷ 84 ∷ (le32 size ++ (revision ∷ 0 ∷ zeros 38))

control : ℕ → ℕ → List ℕ
control initiator target0 =
    1 ∷ 1 ∷ (le16 18 ++ (0 ∷ 0 ∷ (le16 0 ++ (le16 initiator ++ (le16 0 ++ (le16 target0 ++ (le16 0 ++ le16 0)))))))

summed : List ℕ → List ℕ
summed t = write t 9 (checksum t 9 ∷ [])

-- a structure without fields: Target 0 without a name, with the words of its CHAP name and secret, its reverse name and secret;
-- the same without secrets; the initiator without a name
with_secrets : List ℕ → List ℕ → List ℕ → List ℕ → List ℕ
with_secrets chap secret reverse reverse-secret =
    4 ∷ 1 ∷ (le16 54 ++ (0 ∷ 1 ∷ (zeros 28 ++ (zeros 4 ++ (chap ++ (secret ++ (reverse ++ reverse-secret)))))))

target : List ℕ → List ℕ → List ℕ
target chap reverse = with_secrets chap (zeros 4) reverse (zeros 4)

initiator : List ℕ
initiator = 2 ∷ 1 ∷ (le16 74 ++ (0 ∷ 1 ∷ (zeros 64 ++ zeros 4)))

-- a string's words
words : ℕ → ℕ → List ℕ
words size offset = le16 size ++ le16 offset

-- `depot7`, and with a zero byte for its `p`
depot7 : List ℕ
depot7 = 100 ∷ 101 ∷ 112 ∷ 111 ∷ 116 ∷ 55 ∷ []

de·ot7 : List ℕ
de·ot7 = 100 ∷ 101 ∷ 0 ∷ 111 ∷ 116 ∷ 55 ∷ []

-- CHAP name `depot7` at 126, and this reverse name of six bytes behind it, each with its zero
twice : ℕ → List ℕ → List ℕ
twice revision reverse =
    summed (header 140 revision ++ (control 0 72 ++ (zeros 6 ++ (target (words 6 126) (words 6 133) ++ (depot7 ++ (0 ∷ (reverse ++ (0 ∷ []))))))))

-- Target 0 at 72, and the initiator behind it at 128
target_first : List ℕ
target_first = summed (header 202 1 ++ (control 128 72 ++ (zeros 6 ++ (target (zeros 4) (zeros 4) ++ (zeros 2 ++ initiator)))))

-- Target 0 with these words, and `depot7` as the heap
sharing : List ℕ → List ℕ → List ℕ → List ℕ → List ℕ
sharing chap secret reverse reverse-secret =
    summed (header 133 1 ++ (control 0 72 ++ (zeros 6 ++ (with_secrets chap secret reverse reverse-secret ++ (depot7 ++ (0 ∷ []))))))

-- ---- cases

-- a table, the size of the room; the number, place and Length that a rebuild answers
record Case : Type 0 where
  table : List ℕ
  room : ℕ
  answer : List ℕ

row : List ℕ → ℕ → List ℕ → Case
row table room answer = record { table = table; room = room; answer = answer }

cases : List Case
cases =
    row (twice 1 depot7) 200 (0 ∷ 0 ∷ 133 ∷ [])
    ∷ row (twice 1 depot7) 133 (0 ∷ 0 ∷ 133 ∷ [])
    ∷ row (twice 1 depot7) 132 (21 ∷ 0 ∷ 0 ∷ [])
    ∷ row (twice 1 de·ot7) 200 (20 ∷ 5 ∷ 0 ∷ [])
    ∷ row (twice 1 de·ot7) 0 (20 ∷ 5 ∷ 0 ∷ [])
    ∷ row (twice 2 depot7) 200 (7 ∷ 8 ∷ 0 ∷ [])
    ∷ row target_first 206 (0 ∷ 0 ∷ 206 ∷ [])
    ∷ row target_first 205 (21 ∷ 0 ∷ 0 ∷ [])
    -- a secret that equals the CHAP name, one that is its tail, an empty one at its zero: each gets its own bytes
    ∷ row (sharing (words 6 126) (words 6 126) (zeros 4) (zeros 4)) 140 (0 ∷ 0 ∷ 140 ∷ [])
    ∷ row (sharing (words 6 126) (words 6 126) (zeros 4) (zeros 4)) 139 (21 ∷ 0 ∷ 0 ∷ [])
    ∷ row (sharing (words 6 126) (words 1 131) (zeros 4) (zeros 4)) 140 (0 ∷ 0 ∷ 135 ∷ [])
    ∷ row (sharing (words 6 126) (zeros 4) (zeros 4) (words 0 132)) 140 (0 ∷ 0 ∷ 134 ∷ [])
    -- a reverse name that is the tail of a secret, an empty one at a secret's zero, two equal secrets
    ∷ row (sharing (zeros 4) (words 6 126) (words 1 131) (zeros 4)) 140 (0 ∷ 0 ∷ 135 ∷ [])
    ∷ row (sharing (zeros 4) (words 6 126) (words 0 132) (zeros 4)) 140 (0 ∷ 0 ∷ 134 ∷ [])
    ∷ row (sharing (zeros 4) (words 6 126) (zeros 4) (words 6 126)) 140 (0 ∷ 0 ∷ 140 ∷ [])
    -- names share beside a secret that does not
    ∷ row (sharing (words 6 126) (words 6 126) (words 1 131) (zeros 4)) 140 (0 ∷ 0 ∷ 140 ∷ [])
    ∷ []

answered : Case → List ℕ
answered c =
    let a = rebuild_answer c.table c.room in
    a.refusal.number ∷ a.refusal.place ∷ a.length ∷ []

rebuilds : map answered cases ≡ map (λ (c : Case). c.answer) cases
unfolding computing cases answered row twice target_first sharing summed header control with_secrets target initiator words depot7 de·ot7
rebuilds = refl

-- ---- what the room holds

-- refused, all of it as it was
refused-kept : rebuild_room (twice 1 de·ot7) (7 ∷ 8 ∷ 9 ∷ []) ≡ 7 ∷ 8 ∷ 9 ∷ []
unfolding computing twice summed header control with_secrets target words depot7 de·ot7
refused-kept = refl

-- accepted, both names are one, and room past Length is kept
once : List ℕ
once = summed (header 133 1 ++ (control 0 72 ++ (zeros 6 ++ (target (words 6 126) (words 6 126) ++ (depot7 ++ (0 ∷ []))))))

rebuilt-once : rebuild_room (twice 1 depot7) (zeros 133 ++ (7 ∷ [])) ≡ once ++ (7 ∷ [])
unfolding computing once twice summed header control with_secrets target words depot7
rebuilt-once = refl

-- rebuilt again it stays
settles : take 133 (rebuild_room once (zeros 140)) ≡ once
unfolding computing once summed header control with_secrets target words depot7
settles = refl

-- the CHAP name `depot7`, the secret `7`, the reverse name `7`, an empty reverse secret: the reverse name is the tail of the
-- CHAP name, the secrets stand behind it by entry number, the empty one as a zero of its own
apart : List ℕ
apart =
    summed (header 136 1
    ++ (control 0 72
    ++ (zeros 6 ++ (with_secrets (words 6 126) (words 1 133) (words 1 131) (words 0 135) ++ (depot7 ++ (0 ∷ 55 ∷ 0 ∷ 0 ∷ []))))))

rebuilt-apart : rebuild_room (sharing (words 6 126) (words 1 131) (words 1 131) (words 0 132)) (zeros 136 ++ (7 ∷ [])) ≡ apart ++ (7 ∷ [])
unfolding computing apart sharing summed header control with_secrets words depot7
rebuilt-apart = refl
