-- Laws of text put into room: pieces put one behind another are one text, whether or not it fits. Where the first does not fit,
-- the place behind it is the room's end, and nothing more is written.
-- Assumes nothing.
use mathlib.Core.Path.{◌≡◌, refl, sym, ap, ◌∙◌}
use mathlib.Core.List.{List, [], ◌++◌}
use Prim.Native.Nat.{ℕ, ◌+◌, ◌≤◌, min}
use native.Mathlib.Decide.{dec_le}
use native.Mathlib.Omega.{arith}
use lib.ListN.{length, take, drop, length-append}
use lib.Seq.{take-append_seam}
use Rattle.octets.specs.Octets.{write}
use Rattle.octets.proofs.WriteLaws.{length-write, write-next, write-past, write-nothing, write-front}
use Rattle.text.specs.Put.{Puts}

-- nothing put, where the place lies in the room
pub puts-nothing : (t : List ℕ) (at : ℕ) → at ≤ length t → Puts t t at at []
puts-nothing t at h = record { bytes = sym (write-nothing t at); end = omega arith }

-- the room keeps its length
pub puts-length : {a b : List ℕ} {at m : ℕ} {xs : List ℕ} → Puts a b at m xs → length b ≡ length a
puts-length {a} {b} {at} {m} {xs} p = ap length p.bytes ∙ length-write a at xs

-- the place behind lies in the room
pub puts-within : {a b : List ℕ} {at m : ℕ} {xs : List ℕ} → Puts a b at m xs → m ≤ length a
puts-within p = omega (arith, p.end)

-- two texts put one behind the other are one
write-on : (t : List ℕ) (at m : ℕ) (xs ys : List ℕ) → m ≡ min (length t) (at + length xs) → write (write t at xs) m ys ≡ write t at (xs ++ ys)
write-on t at m xs ys e =
    elim (dec_le (at + length xs) (length t)) [
      | yes h ↦ write-next t at m xs ys (omega arith)
      | no h ↦
          let full : length (write t at xs) ≤ m = omega (arith, length-write t at xs) in
          write-past (write t at xs) m ys full
          ∙ sym (write-past (write t at xs) (at + length xs) ys (omega (arith, length-write t at xs)))
          ∙ write-next t at (at + length xs) xs ys refl
    ]

pub puts-append : {a b c : List ℕ} {at m n : ℕ} {xs ys : List ℕ} → Puts a b at m xs → Puts b c m n ys → Puts a c at n (xs ++ ys)
puts-append {a} {b} {c} {at} {m} {n} {xs} {ys} p q =
    record {
      bytes = q.bytes ∙ ap (λ (t : List ℕ). write t m ys) p.bytes ∙ write-on a at m xs ys p.end;
      end = omega (arith, p.end, q.end, puts-length p, length-append xs ys);
    }

-- the same text
pub puts-same : {a b : List ℕ} {at m : ℕ} {xs ys : List ℕ} → Puts a b at m xs → xs ≡ ys → Puts a b at m ys
puts-same {a} {b} {at} {m} {xs} {ys} p e =
    record {
      bytes = p.bytes ∙ ap (write a at) e;
      end = omega (arith, p.end, ap length e);
    }

-- what was put at the front of the room, where it fits
pub puts-front : {a b : List ℕ} {m : ℕ} {xs : List ℕ} → Puts a b 0 m xs → length xs ≤ length a → take m b ≡ xs
puts-front {a} {b} {m} {xs} p fits =
    let all : m ≡ length xs = omega (arith, p.end) in
    rw (p.bytes, all, write-front a xs fits) (take-append_seam xs (drop (length xs) a))
