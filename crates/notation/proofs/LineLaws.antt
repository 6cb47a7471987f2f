-- The text of a value is left whole by a line: it is not empty, no blank stands at its ends and no line feed in it.
--     Whole                                          a text that is left whole
--     whole-lacks, string-whole                      one without a blank; a string
--     number-lacks, pair-lacks, pairs-lack           bytes that are no digits are in no number and in no pairs
--     number-whole, pairs-whole, address-whole       numbers, pairs and addresses
--     blank-other, feed-other                        blanks and line feeds are no digits
-- Assumes nothing.
use mathlib.Core.Path.{◌≡◌, refl, ap, ◌∙◌}
use mathlib.Core.List.{List, [], append-nil}
use mathlib.Core.Bool.{Bool, true, false}
use Prim.Native.Char.{code}
use Prim.Native.Nat.{ℕ, zero, suc, ◌+◌, ◌-◌, ◌<◌}
use native.Mathlib.Decide.{dec_lt}
use native.Mathlib.Omega.{arith}
use lib.ListN.{length, take, drop, length-append, length-take, length-drop}
use Rattle.octets.specs.Counting.{first, any, tabulate, gather}
use Rattle.octets.specs.Octets.{byte, part}
use Rattle.octets.proofs.CountingLaws.{any_none}
use Rattle.text.specs.Split.{is_blank, is, each, blanks, trim_end, trim, lacks}
use Rattle.text.proofs.SplitLaws.{trim-part, trim_end-whole, trim-whole, blanks-append}
use Rattle.notation.specs.Number.{digit_byte, digits, padded}
use Rattle.notation.specs.Address.{address_text}
use Rattle.notation.specs.Pairs.{colon_pair, pairs_text}
use Rattle.notation.specs.Escape.{string_text}
use Rattle.notation.proofs.PieceLaws.{lacks-append, lacks-each}
use Rattle.notation.proofs.NumberLaws.{digits-some, digits-each, padded-each, padded-length}
use Rattle.notation.proofs.AddressLaws.{text-lacks, text-some}
use Rattle.notation.proofs.EscapeLaws.{text-nonempty, text-line, text-whole}

pub record Whole (v : List ℕ) : Type 0 where
  pub some : 0 < length v
  pub ends : trim_end v ≡ v
  pub whole : trim v ≡ v
  pub line : lacks (is 10) v ≡ true

pub whole-lacks : (v : List ℕ) → 0 < length v → lacks is_blank v ≡ true → lacks (is 10) v ≡ true → Whole v
whole-lacks v filled h line =
    let ends = trim_end-whole v h in
    let front : blanks v ≡ 0 = rw append-nil at (blanks-append v [] filled h) in
    record { some = filled; ends = ends; whole = trim-whole v front ends; line = line }

-- a text that is left whole has no blank at its end
whole-ends : (v : List ℕ) → 0 < length v → trim v ≡ v → trim_end v ≡ v
unfolding trim part
whole-ends v filled e =
    elim (dec_lt 0 (blanks v)) [
      | yes h ↦
          let short : length (take (length (trim v)) (drop (blanks v) v)) ≡ length v = ap length (trim-part v ∙ e) in
          absurd (omega (arith, short, length-take (length (trim v)) (drop (blanks v) v), length-drop (blanks v) v))
      | no h ↦ let front : blanks v ≡ 0 = omega arith in rw front at e
    ]

pub string-whole : (s : List ℕ) → Whole (string_text s)
string-whole s =
    let whole = text-whole s in
    record { some = text-nonempty s; ends = whole-ends (string_text s) (text-nonempty s) whole; whole = whole; line = text-line s }

-- bytes that are no digits are in no number and no pairs
module _ (p : ℕ → Bool) (other : any 16 (λ (d : ℕ). p (digit_byte d)) ≡ false) where
  abbrev Fails : ℕ → Type 0
  Fails b = p b ≡ false

  digit-fails : (d : ℕ) → d < 16 → Fails (digit_byte d)
  digit-fails = any_none 16 (λ (d : ℕ). p (digit_byte d)) other

  pub number-lacks : (n : ℕ) → lacks p (digits 10 n) ≡ true
  number-lacks n = lacks-each p (digits 10 n) (digits-each 10 (omega arith) (omega arith) Fails digit-fails n)

  pub pair-lacks : (b : ℕ) → lacks p (padded 2 16 b) ≡ true
  pair-lacks b = lacks-each p (padded 2 16 b) (padded-each 16 (omega arith) (omega arith) Fails digit-fails 2 b)

  module _ (colon : p (code ":") ≡ false) where
    behind-lack : (f : ℕ → ℕ) (k n : ℕ) → lacks p (gather (λ (j : ℕ). colon_pair (f j)) k n) ≡ true
    unfolding gather each
    behind-lack f k zero = refl
    behind-lack f k (suc n) =
        lacks-append p (colon_pair (f k)) (gather (λ (j : ℕ). colon_pair (f j)) (suc k) n) (rw colon (pair-lacks (f k))) (behind-lack f (suc k) n)

    pub pairs-lack : (n : ℕ) (m : List ℕ) → lacks p (pairs_text n m) ≡ true
    unfolding pairs_text
    pairs-lack n m = lacks-append p (padded 2 16 (byte m 0)) _ (pair-lacks (byte m 0)) (behind-lack (λ (k : ℕ). byte m (k + 1)) 0 (n - 1))

pairs-some : (n : ℕ) (m : List ℕ) → 0 < length (pairs_text n m)
unfolding pairs_text
pairs-some n m =
    omega (arith, length-append (padded 2 16 (byte m 0)) (gather (λ (k : ℕ). colon_pair (byte m (k + 1))) 0 (n - 1)), padded-length 16 2 (byte m 0))

pub blank-other : any 16 (λ (d : ℕ). is_blank (digit_byte d)) ≡ false
unfolding any first tabulate digit_byte is_blank
blank-other = refl

pub feed-other : any 16 (λ (d : ℕ). is 10 (digit_byte d)) ≡ false
unfolding any first tabulate digit_byte
feed-other = refl

pub number-whole : (n : ℕ) → Whole (digits 10 n)
number-whole n = whole-lacks (digits 10 n) (digits-some 10 (omega arith) n) (number-lacks is_blank blank-other n) (number-lacks (is 10) feed-other n)

pub pairs-whole : (n : ℕ) (m : List ℕ) → Whole (pairs_text n m)
unfolding is_blank
pairs-whole n m =
    whole-lacks (pairs_text n m) (pairs-some n m) (pairs-lack is_blank blank-other refl n m) (pairs-lack (is 10) feed-other refl n m)

pub address-whole : (a : List ℕ) → Whole (address_text a)
unfolding is_blank
address-whole a = whole-lacks (address_text a) (text-some a) (text-lacks a is_blank blank-other refl refl) (text-lacks a (is 10) feed-other refl refl)
