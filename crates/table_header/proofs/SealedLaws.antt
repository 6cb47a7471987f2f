-- Laws of a table that was put together from a header and the bytes behind it, its checksum set: what is read of it is what was
-- put there, whatever bytes are lent past its Length.
--     Sealed                                     t starts with such a table
--     length_back                                its Length, as it is read
--     oem-id-back, oem-table-id-back             its OEM fields
--     behind-byte, behind-lies, behind-bytes     the bytes behind the header
--     header-passes                              it passes the header's tests
--     sealed-stands                              its checksum byte stands at 9
-- Assumes nothing.
use mathlib.Core.Path.{◌≡◌, sym, ap, ◌∙◌}
use mathlib.Core.Bool.{true, not}
use mathlib.Core.List.{List, ◌++◌}
use Prim.Native.Nat.{ℕ, ◌+◌, ◌*◌, ◌/◌, ◌%◌, ◌≤◌, ◌<◌}
use native.Mathlib.Nat.{add_assoc}
use native.Mathlib.Omega.{arith}
use borrow.Author.Tests.{le-ltb}
use lib.ListN.{length, take, length-set, length-append, get_or-append}
use lib.Seq.{get_or-append-add, get_or-set_other, take_at}
use Rattle.octets.specs.Octets.{byte, word32, part, bytes_at, sum, checksum}
use Rattle.octets.proofs.LiesLaws.{Lies}
use Rattle.octets.proofs.ReadLaws.{bytes-elements, bytes-part, bytes_same}
use Rattle.octets.specs.Promises.{ChecksumByte}
use Rattle.octets.proofs.SumLaws.{checksum-sums, checksum-put}
use Rattle.octets.proofs.TestLaws.{same_differs}
use Rattle.table_header.specs.Verdict.{first_of, Accepted}
use Rattle.table_header.specs.Header.{length_of, padded, header_tests, header_start, headed, sealed}
use Rattle.table_header.proofs.VerdictLaws.{accept-none, accept-cons}

-- t starts with the table of this signature, Length, OEM fields and bytes behind the header
pub record Sealed (t : List ℕ) (signature long : ℕ) (oem_id oem_table_id behind : List ℕ) : Type 0 where
  pub rest : List ℕ
  pub is : t ≡ sealed (headed signature long oem_id oem_table_id behind) ++ rest
  pub six : length oem_id ≡ 6
  pub eight : length oem_table_id ≡ 8
  pub whole : 24 + length behind ≡ long

pub sealed-stands : (t : List ℕ) → 9 < length (sealed t) → ChecksumByte (sealed t) 9 (byte (sealed t) 9)
unfolding sealed
sealed-stands t h = checksum-put t 9 (omega (arith, length-set t 9 (checksum t 9)))

-- four bytes of a number, read again
number-back : (v : ℕ) → v < 4294967296
    → v % 256 + 256 * (v / 256 % 256) + 65536 * (v / 65536 % 256 + 256 * (v / 65536 / 256 % 256)) ≡ v
number-back v h = omega arith

module _ (t : List ℕ) (signature long : ℕ) (oem_id oem_table_id behind : List ℕ) (s : Sealed t signature long oem_id oem_table_id behind) where
  abbrev bare : List ℕ
  bare = headed signature long oem_id oem_table_id behind

  bare-length : length bare ≡ long
  unfolding headed
  bare-length =
      omega (arith, s.six, s.eight, s.whole, length-append oem_id (oem_table_id ++ behind), length-append oem_table_id behind)

  table-length : length (sealed bare) ≡ long
  unfolding sealed
  table-length = length-set bare 9 (checksum bare 9) ∙ bare-length

  long-enough : long ≤ length t
  long-enough = omega (arith, ap length s.is, length-append (sealed bare) s.rest, table-length)

  -- every byte but the checksum is as it was before the checksum was set
  byte-back : (i : ℕ) → i < long → (i ≡ 9 → ⊥) → byte t i ≡ byte bare i
  unfolding sealed
  byte-back i h ne =
      ap (λ (l : List ℕ). byte l i) s.is
      ∙ get_or-append (sealed bare) s.rest 0 i (omega (arith, table-length))
      ∙ get_or-set_other bare 9 i (checksum bare 9) 0 ne

  sums : sum (take long t) % 256 ≡ 0
  unfolding sealed
  sums =
      ap (λ (l : List ℕ). sum (take long l) % 256) s.is
      ∙ ap (λ (l : List ℕ). sum l % 256) (take_at (sealed bare) s.rest long table-length)
      ∙ checksum-sums bare 9 (omega (arith, bare-length, s.whole))

  -- ---- the header's numbers

  header-byte : (i : ℕ) → i < 9 → byte t i ≡ byte bare i
  header-byte i h = byte-back i (omega (arith, s.whole)) (λ e. omega arith)

  signature-back : signature < 4294967296 → word32 t 0 ≡ signature
  unfolding headed
  signature-back h =
      rw (header-byte 0 (omega arith), header-byte 1 (omega arith), header-byte 2 (omega arith), header-byte 3 (omega arith)) (number-back signature h)

  pub length_back : long < 4294967296 → length_of t ≡ long
  unfolding headed
  length_back h =
      rw (header-byte 4 (omega arith), header-byte 5 (omega arith), header-byte 6 (omega arith), header-byte 7 (omega arith)) (number-back long h)

  revision-back : byte t 8 ≡ 1
  unfolding headed
  revision-back = header-byte 8 (omega arith)

  -- ---- the bytes behind them

  oem-id-byte : (i : ℕ) → i < 6 → byte t (10 + i) ≡ byte oem_id i
  unfolding headed
  oem-id-byte i h =
      byte-back (10 + i) (omega (arith, s.whole)) (λ e. omega arith)
      ∙ get_or-append-add (header_start signature long) (oem_id ++ (oem_table_id ++ behind)) i 0
      ∙ get_or-append oem_id (oem_table_id ++ behind) 0 i (omega (arith, s.six))

  -- place i of what stands behind the OEM ID
  past-oem-id : (i : ℕ) → 16 + i < long → byte t (16 + i) ≡ byte (oem_table_id ++ behind) i
  unfolding headed
  past-oem-id i h =
      let place : 16 + i ≡ 10 + (length oem_id + i) = omega (arith, s.six) in
      byte-back (16 + i) h (λ e. omega arith)
      ∙ ap (byte bare) place
      ∙ get_or-append-add (header_start signature long) (oem_id ++ (oem_table_id ++ behind)) (length oem_id + i) 0
      ∙ get_or-append-add oem_id (oem_table_id ++ behind) i 0

  oem-table-id-byte : (i : ℕ) → i < 8 → byte t (16 + i) ≡ byte oem_table_id i
  oem-table-id-byte i h =
      past-oem-id i (omega (arith, s.whole)) ∙ get_or-append oem_table_id behind 0 i (omega (arith, s.eight))

  pub behind-byte : (i : ℕ) → i < length behind → byte t (24 + i) ≡ byte behind i
  behind-byte i h =
      let place : 24 + i ≡ 16 + (length oem_table_id + i) = omega (arith, s.eight) in
      ap (byte t) place ∙ past-oem-id (length oem_table_id + i) (omega (arith, s.whole, s.eight)) ∙ get_or-append-add oem_table_id behind i 0

  pub oem-id-back : bytes_at t 10 6 ≡ oem_id
  oem-id-back = sym (bytes-elements oem_id t 10 6 s.six (λ i h. sym (oem-id-byte i h)))

  pub oem-table-id-back : bytes_at t 16 8 ≡ oem_table_id
  oem-table-id-back = sym (bytes-elements oem_table_id t 16 8 s.eight (λ i h. sym (oem-table-id-byte i h)))

  pub behind-lies : (p : ℕ) (x : List ℕ) → p + length x ≤ length behind → Lies behind p x → Lies t (24 + p) x
  behind-lies p x h l i low = ap (byte t) (add_assoc 24 p i) ∙ behind-byte (p + i) (omega arith) ∙ l i low

  pub behind-bytes : (p n : ℕ) → p + n ≤ length behind → bytes_at t (24 + p) n ≡ bytes_at behind p n
  behind-bytes p n h =
      bytes_same t behind (24 + p) p n (λ i l. ap (byte t) (add_assoc 24 p i) ∙ behind-byte (p + i) (omega arith))

  -- ---- the header's tests

  pub header-passes : (least_lent least_length : ℕ) → signature < 4294967296 → long < 4294967296 → least_lent ≤ long → least_length ≤ long
      → padded oem_id ≡ true → padded oem_table_id ≡ true → first_of (header_tests signature least_lent least_length t) ≡ Accepted
  unfolding header_tests
  header-passes least_lent least_length hs hl lent least id table_id =
      let is : length_of t ≡ long = length_back hl in
      let summed : sum (take (length_of t) t) % 256 ≡ 0 = ap (λ (n : ℕ). sum (take n t) % 256) is ∙ sums in
      let id-is : part t 10 6 ≡ oem_id = sym (bytes-part t 10 6 (omega (arith, long-enough, s.whole))) ∙ oem-id-back in
      let table-id-is : part t 16 8 ≡ oem_table_id = sym (bytes-part t 16 8 (omega (arith, long-enough, s.whole))) ∙ oem-table-id-back in
      accept-cons _ _ (le-ltb (length t) least_lent (omega (arith, long-enough)))
      (accept-cons _ _ (same_differs (word32 t 0) signature (signature-back hs))
      (accept-cons _ _ (le-ltb (length_of t) least_length (omega arith))
      (accept-cons _ _ (le-ltb (length t) (length_of t) (omega (arith, long-enough)))
      (accept-cons _ _ (same_differs (sum (take (length_of t) t) % 256) 0 summed)
      (accept-cons _ _ (same_differs (byte t 8) 1 revision-back)
      (accept-cons _ _ (ap (λ (l : List ℕ). not (padded l)) id-is ∙ ap not id)
      (accept-cons _ _ (ap (λ (l : List ℕ). not (padded l)) table-id-is ∙ ap not table_id) accept-none)))))))
