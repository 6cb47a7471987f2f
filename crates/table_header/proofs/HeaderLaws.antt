-- Laws of the header's check.
--     padded-byte, padded-zero, padded-end                    an OEM field from a place on, by the byte at that place
--     zero-byte, zero-broken, zero-end                        and its tail
--     padded-part                                             an OEM field that is not all lent
--     sum-stands, sum_tells                                   the sum of Length bytes, by the checksum byte
--     reserved-stop, reserved-go, reserved-end                reserved bytes from a place on, by the byte at that place
--     reserved-passes, reserved-zeros                         reserved bytes that are all zero
-- Assumes nothing.
use mathlib.Core.Path.{◌≡◌, refl, sym, ap, ◌∙◌}
use mathlib.Core.Logic.{◌↔◌}
use mathlib.Core.List.{List, []}
use mathlib.Core.Bool.{true, false}
use Prim.Native.Nat.{ℕ, zero, suc, ◌+◌, ◌-◌, ◌%◌, ◌≤◌, ◌<◌}
use native.Mathlib.Numerals.{add-one}
use native.Mathlib.Nat.{add-zero}
use native.Mathlib.Decide.{dec_lt}
use native.Mathlib.Omega.{arith}
use borrow.Author.Tests.{eq-eqb, ne_eqb}
use lib.ListN.{length, take, drop, drop_of_length-le}
use lib.Seq.{drop-cons, take-nil}
use Rattle.octets.specs.Counting.{tabulate}
use Rattle.octets.specs.Octets.{byte, part, bytes_past, bytes_at, zeros, all_zero, sum, checksum}
use Rattle.octets.specs.Promises.{ChecksumByte}
use Rattle.octets.proofs.LiesLaws.{Lies}
use Rattle.octets.proofs.ReadLaws.{byte_past}
use Rattle.octets.proofs.WriteLaws.{length-zeros, get_d-zeros}
use Rattle.table_header.specs.Verdict.{refusal, first_of, Verdict, Accepted, Refused}
use Rattle.table_header.specs.Header.{padded, reserved_tests}

module _ (s : List ℕ) (i : ℕ) where
  pub padded-byte : i < length s → (byte s i ≡ 0 → ⊥) → padded (drop i s) ≡ padded (drop (i + 1) s)
  unfolding padded
  padded-byte h z = rw (drop-cons s i 0, add-one, ne_eqb (byte s i) 0 z)

  pub padded-zero : i < length s → byte s i ≡ 0 → padded (drop i s) ≡ all_zero (drop (i + 1) s)
  unfolding padded
  padded-zero h z = rw (drop-cons s i 0, add-one, z)

  pub padded-end : length s ≤ i → padded (drop i s) ≡ true
  unfolding padded
  padded-end h = rw drop_of_length-le

  pub zero-byte : i < length s → byte s i ≡ 0 → all_zero (drop i s) ≡ all_zero (drop (i + 1) s)
  unfolding all_zero
  zero-byte h z = rw (drop-cons s i 0, add-one, z)

  pub zero-broken : i < length s → (byte s i ≡ 0 → ⊥) → all_zero (drop i s) ≡ false
  unfolding all_zero
  zero-broken h z = rw (drop-cons s i 0, ne_eqb (byte s i) 0 z)

  pub zero-end : length s ≤ i → all_zero (drop i s) ≡ true
  unfolding all_zero
  zero-end h = rw drop_of_length-le

-- a field that is not all lent, filled up with zero bytes, is padded exactly where what is lent of it is
module _ (t : List ℕ) (i : ℕ) where
  zero-filled : (k n : ℕ) → all_zero (take n (drop (i + k) t)) ≡ all_zero (bytes_past t i k n)
  unfolding all_zero bytes_past
  zero-filled k zero = refl
  zero-filled k (suc n) =
      let next : i + suc k ≡ suc (i + k) = omega arith in
      let rest : all_zero (take n (drop (suc (i + k)) t)) ≡ all_zero (bytes_past t i (suc k) n) = rw next at (zero-filled (suc k) n) in
      elim (dec_lt (i + k) (length t)) [
        | yes h ↦ rw (drop-cons t (i + k) 0 h, rest)
        | no h ↦
            let end : length t ≤ i + k = omega arith in
            let past : length t ≤ suc (i + k) = omega arith in
            let none : drop (i + k) t ≡ [] = drop_of_length-le t end in
            let all : drop (suc (i + k)) t ≡ [] = drop_of_length-le t past in
            rw (none, ← byte_past t (i + k) (omega arith)) (rw (all, take-nil) at rest)
      ]

  padded-filled : (k n : ℕ) → padded (take n (drop (i + k) t)) ≡ padded (bytes_past t i k n)
  unfolding padded all_zero bytes_past
  padded-filled k zero = refl
  padded-filled k (suc n) =
      let next : i + suc k ≡ suc (i + k) = omega arith in
      let rest : padded (take n (drop (suc (i + k)) t)) ≡ padded (bytes_past t i (suc k) n) = rw next at (padded-filled (suc k) n) in
      let zeros : all_zero (take n (drop (suc (i + k)) t)) ≡ all_zero (bytes_past t i (suc k) n) = rw next at (zero-filled (suc k) n) in
      elim (dec_lt (i + k) (length t)) [
        | yes h ↦ rw (drop-cons t (i + k) 0 h, rest, zeros)
        | no h ↦
            let end : length t ≤ i + k = omega arith in
            let past : length t ≤ suc (i + k) = omega arith in
            let none : drop (i + k) t ≡ [] = drop_of_length-le t end in
            let all : drop (suc (i + k)) t ≡ [] = drop_of_length-le t past in
            rw (none, ← byte_past t (i + k) (omega arith)) (rw (all, take-nil) at zeros)
      ]

  pub padded-part : (n : ℕ) → padded (part t i n) ≡ padded (bytes_at t i n)
  unfolding part
  padded-part n = rw (add-zero i) at (padded-filled 0 n)

-- the first `n` bytes u of a table, and the checksum byte c of u: they sum to 0 where it stands as the byte b at 9
module _ (t u : List ℕ) (n c : ℕ) (whole : u ≡ part t 0 n) (right : ChecksumByte u 9 c) where
  pub sum-stands : (b : ℕ) → b ≡ byte u 9 → b < 256 → (c ≡ b) ↔ (sum (take n t) % 256 ≡ 0)
  unfolding part
  sum-stands b stands small =
      let stands-iff = right.stands (omega arith) in
      let same = ap (λ (l : List ℕ). sum l % 256) whole in
      (λ e. sym same ∙ stands-iff.0 (e ∙ stands), λ e. stands-iff.1 (same ∙ e) ∙ sym stands)

  pub sum_tells : c ≡ checksum (take n t) 9
  unfolding part
  sum_tells = right.checksum-is ∙ ap (λ (l : List ℕ). checksum l 9) whole

-- ---- the n reserved bytes from `at` on, of which i have been looked at

module _ (t : List ℕ) (at n i : ℕ) where
  pub reserved-stop : i < n → (byte t (at + i) ≡ 0 → ⊥) → (v : Verdict) → v ≡ Refused (refusal 30 (at + i))
      → v ≡ first_of (reserved_tests t (at + i) (n - i))
  unfolding first_of reserved_tests tabulate
  reserved-stop h z v e =
      let left : n - i ≡ suc (n - (i + 1)) = omega arith in
      rw (left, ne_eqb (byte t (at + i)) 0 z) e

  pub reserved-go : i < n → byte t (at + i) ≡ 0 → first_of (reserved_tests t (at + (i + 1)) (n - (i + 1))) ≡ first_of (reserved_tests t (at + i) (n - i))
  unfolding first_of reserved_tests tabulate
  reserved-go h z =
      let left : n - i ≡ suc (n - (i + 1)) = omega arith in
      let next : at + (i + 1) ≡ suc (at + i) = omega arith in
      rw (left, next, eq-eqb (byte t (at + i)) 0 z)

  pub reserved-end : n ≤ i → first_of (reserved_tests t (at + i) (n - i)) ≡ Accepted
  unfolding first_of reserved_tests tabulate
  reserved-end h = let none : n - i ≡ 0 = omega arith in rw none

pub reserved-passes : (t : List ℕ) (at n : ℕ) → ((i : ℕ) → at ≤ i → i < at + n → byte t i ≡ 0) → first_of (reserved_tests t at n) ≡ Accepted
unfolding first_of reserved_tests tabulate
reserved-passes t at zero h = refl
reserved-passes t at (suc n) h =
    rw (eq-eqb (byte t at) 0 (h at (omega arith) (omega arith))) (reserved-passes t (suc at) n (λ i l m. h i (omega arith) (omega arith)))

pub reserved-zeros : (t : List ℕ) (at n : ℕ) → Lies t at (zeros n) → first_of (reserved_tests t at n) ≡ Accepted
reserved-zeros t at n l =
    reserved-passes t at n
    (λ i low high.
    let place : i ≡ at + (i - at) = omega arith in
    ap (byte t) place ∙ l (i - at) (omega (arith, length-zeros n)) ∙ get_d-zeros n (i - at))
