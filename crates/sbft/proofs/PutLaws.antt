-- Laws of the puts that make up a written table: each is right behind the one before it, so that together they are one.
--     offsets-more              one more offset
--     same-put                  what is lent of a stretch of the image, and zeros for the rest of it
--     ib-put                    the IB part and its reserved bytes
--     behind-puts               all that stands behind the header
-- Assumes nothing.
use mathlib.Core.Path.{◌≡◌, refl, sym, ap, ◌∙◌}
use mathlib.Core.List.{List, ◌++◌}
use Prim.Native.Nat.{ℕ, zero, suc, ◌+◌, ◌*◌, ◌-◌, ◌<◌, min}
use native.Mathlib.Numerals.{add-one}
use native.Mathlib.Nat.{zero-add}
use native.Mathlib.Decide.{dec_lt}
use native.Mathlib.Omega.{arith}
use lib.ListN.{length, drop, length-append, length-take, length-drop, get_or-append}
use lib.Seq.{get_or-append-add}
use Rattle.octets.specs.Counting.{gather}
use Rattle.octets.specs.Octets.{byte, part, bytes_at, zeros, write}
use Rattle.octets.proofs.CountingLaws.{gather-last}
use Rattle.octets.proofs.ReadLaws.{byte_past, part_at, length-bytes_past, bytes-elements, part-most}
use Rattle.octets.proofs.WriteLaws.{write-halves, length-zeros, get_d-zeros}
use Rattle.sbft.specs.Layout.{part_count, part_of}
use Rattle.sbft.specs.Write.{word_written, ib_written}
use Rattle.sbft.proofs.LayoutLaws.{word-place}

-- ---- the offsets

offsets-length : (image : List ℕ) (k : ℕ) → length (gather (word_written image) 0 k) ≡ 2 * k
unfolding gather word_written
offsets-length image zero = refl
offsets-length image (suc k) =
    omega (
      arith,
      ap length (gather-last (word_written image) 0 k),
      length-append (gather (word_written image) 0 k) (word_written image (0 + k)),
      offsets-length image k,
    )

pub offsets-more : (image t u w : List ℕ) (k : ℕ) → k < part_count → u ≡ write t 36 (gather (word_written image) 0 k)
    → w ≡ write u (part_of k).word (word_written image k) → w ≡ write t 36 (gather (word_written image) 0 (k + 1))
offsets-more image t u w k h eu ew =
    let word = word_written image in
    let place : (part_of k).word ≡ 36 + length (gather word 0 k) = omega (arith, word-place k h, offsets-length image k) in
    let more : gather word 0 k ++ word k ≡ gather word 0 (k + 1) =
    ap (λ (i : ℕ). gather word 0 k ++ word i) (sym (zero-add k)) ∙ sym (gather-last word 0 k) ∙ ap (gather word 0) (sym (add-one k)) in
    write-halves t u w 36 (part_of k).word (gather word 0 k) (word k) (gather word 0 (k + 1)) eu ew place more

-- ---- bytes of the image

part-size : (t : List ℕ) (at n : ℕ) → length (part t at n) ≡ min n (length t - at)
unfolding part
part-size t at n = length-take n (drop at t) ∙ ap (min n) (length-drop at t)

module _ (t : List ℕ) (at n : ℕ) where
  -- the part, and a zero for each byte that is not there
  lent-byte : (j : ℕ) → j < n → byte (part t at n ++ zeros (n - length (part t at n))) j ≡ byte t (at + j)
  lent-byte j h =
      let lent = part t at n in
      let rest = zeros (n - length lent) in
      elim (dec_lt j (length lent)) [
        | yes l ↦ get_or-append lent rest 0 j l ∙ part_at t at n j h
        | no l ↦
            let place : j ≡ length lent + (j - length lent) = omega arith in
            ap (byte (lent ++ rest)) place
            ∙ get_or-append-add lent rest (j - length lent) 0
            ∙ get_d-zeros (n - length lent) (j - length lent)
            ∙ byte_past t (at + j) (omega (arith, part-size t at n))
      ]

  bytes-lent : part t at n ++ zeros (n - length (part t at n)) ≡ bytes_at t at n
  bytes-lent =
      let lent = part t at n in
      let rest = zeros (n - length lent) in
      bytes-elements (lent ++ rest) t at n (omega (arith, length-append lent rest, length-zeros (n - length lent), part-most t at n)) lent-byte

pub same-put : (image t u w lent : List ℕ) (at n : ℕ) → lent ≡ part image at n → u ≡ write t at lent → w ≡ write u (at + length lent) (zeros (n - length lent))
    → w ≡ write t at (bytes_at image at n)
same-put image t u w lent at n is eu ew =
    write-halves t u w at (at + length lent) lent (zeros (n - length lent)) (bytes_at image at n) eu ew refl
    (ap (λ (l : List ℕ). l ++ zeros (n - length l)) is ∙ bytes-lent image at n)

-- ---- the pieces of a table

module _ (image : List ℕ) where
  pub ib-put : (t u w : List ℕ) → u ≡ write t 88 (bytes_at image 88 42) → w ≡ write u 130 (zeros 6) → w ≡ write t 88 (bytes_at image 88 42 ++ zeros 6)
  ib-put t u w eu ew =
      write-halves t u w 88 130 (bytes_at image 88 42) (zeros 6) (bytes_at image 88 42 ++ zeros 6) eu ew (omega (arith, length-bytes_past image 88 0 42)) refl

  pub behind-puts : (t u v w x y z : List ℕ) → u ≡ write t 24 (zeros 12) → v ≡ write u 36 (gather (word_written image) 0 part_count) → w ≡ write v 42 (zeros 6)
      → x ≡ write w 48 (bytes_at image 48 8) → y ≡ write x 56 (bytes_at image 56 32) → z ≡ write y 88 (ib_written image)
      → z
      ≡ write t 24
      (zeros 12
      ++ (gather (word_written image) 0 part_count ++ (zeros 6 ++ (bytes_at image 48 8 ++ (bytes_at image 56 32 ++ ib_written image)))))
  behind-puts t u v w x y z eu ev ew ex ey ez =
      let words = gather (word_written image) 0 part_count in
      let from-srp : z ≡ write x 56 (bytes_at image 56 32 ++ ib_written image) =
      write-halves x y z 56 88 (bytes_at image 56 32) (ib_written image) _ ey ez (omega (arith, length-bytes_past image 56 0 32)) refl in
      let from-scsi : z ≡ write w 48 (bytes_at image 48 8 ++ (bytes_at image 56 32 ++ ib_written image)) =
      write-halves w x z 48 56 (bytes_at image 48 8) _ _ ex from-srp (omega (arith, length-bytes_past image 48 0 8)) refl in
      let from_last : z ≡ write v 42 (zeros 6 ++ (bytes_at image 48 8 ++ (bytes_at image 56 32 ++ ib_written image))) =
      write-halves v w z 42 48 (zeros 6) _ _ ew from-scsi (omega (arith, length-zeros 6)) refl in
      let from-words : z ≡ write u 36 (words ++ (zeros 6 ++ (bytes_at image 48 8 ++ (bytes_at image 56 32 ++ ib_written image)))) =
      write-halves u v z 36 42 words _ _ ev from_last (omega (arith, offsets-length image part_count)) refl in
      write-halves t u z 24 36 (zeros 12) _ _ eu from-words (omega (arith, length-zeros 12)) refl
