-- Laws of the line of a refusal.
--     line-fits          no line has more than 25 bytes
--     side-line-fits     none with a side has more than 29
-- Assumes nothing.
use mathlib.Core.Path.{◌≡◌, refl}
use mathlib.Core.Bool.{Bool, true, false, cond}
use mathlib.Core.List.{[], ◌∷◌, ◌++◌}
use Prim.Native.Nat.{ℕ, ◌+◌, ◌≤◌, ◌<◌, ◌^◌}
use native.Mathlib.Omega.{arith}
use lib.Dec.{eqb}
use lib.ListN.{length, length-append}
use borrow.Author.Tests.{eqb-true}
use Rattle.octets.specs.Counting.{tabulate}
use Rattle.notation.specs.Number.{digits}
use Rattle.notation.proofs.NumberLaws.{digits-length}
use Rattle.table_header.specs.declared.verdict.Refusal.{Refusal}
use Rattle.refusal_text.specs.RefusalText.{next_number, checksum_text, refusal_words, refusal_text, side_refusal_text}

-- the number and the checksum byte: with 6 one digit, and a space and up to three; with any other number up to three digits
behind-fits : (r : Refusal) → r.number < 2 ^ 8 → r.checksum < 2 ^ 8 → length (digits 10 r.number) + length (checksum_text r) ≤ 5
unfolding checksum_text
behind-fits r number checksum = go (eqb r.number 6) refl
  where
    go : (b : Bool) → eqb r.number 6 ≡ b
        → length (digits 10 r.number) + length (cond b (next_number r.checksum) []) ≤ 5
    go true e =
        let six : r.number ≡ 6 = eqb-true r.number 6 e in
        omega (arith, digits-length 10 (omega arith) 0 r.number (omega arith), digits-length 10 (omega arith) 2 r.checksum (omega arith))
    go false e = omega (arith, digits-length 10 (omega arith) 2 r.number (omega arith))

-- the word, the number, the place, the checksum byte
words-fit : (r : Refusal) → r.number < 2 ^ 8 → r.place < 2 ^ 32 → r.checksum < 2 ^ 8 → length (refusal_words r) ≤ 24
unfolding refusal_words tabulate
words-fit r number place checksum =
    omega (
      arith,
      behind-fits r number checksum,
      digits-length 10 (omega arith) 9 r.place (omega arith),
      length-append (next_number r.number) (next_number r.place ++ checksum_text r),
      length-append (next_number r.place) (checksum_text r),
    )

pub line-fits : (r : Refusal) → r.number < 2 ^ 8 → r.place < 2 ^ 32 → r.checksum < 2 ^ 8 → length (refusal_text r) ≤ 25
unfolding refusal_text
line-fits r number place checksum = omega (arith, words-fit r number place checksum, length-append (refusal_words r) (10 ∷ []))

pub side-line-fits : (r : Refusal) (side : ℕ) → r.number < 2 ^ 8 → r.place < 2 ^ 32 → r.checksum < 2 ^ 8 → side < 2 ^ 8
    → length (side_refusal_text r side) ≤ 29
unfolding side_refusal_text
side-line-fits r side number place checksum small =
    omega (
      arith,
      words-fit r number place checksum,
      digits-length 10 (omega arith) 2 side (omega arith),
      length-append (refusal_words r) (next_number side ++ (10 ∷ [])),
      length-append (next_number side) (10 ∷ []),
    )
