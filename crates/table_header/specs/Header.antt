-- The header that a table of every family starts with: signature 0 (4), Length 4 (4), Revision 1 at 8, Checksum at 9, OEMID 10
-- (6), OEM Table ID 16 (8). Assumes nothing: these are definitions.
use Rattle.std.specs.Prelude.{ℕ, ◌%◌, List, [], ◌∷◌, ◌++◌, Bool, true, cond, not, length, take, set, ltb, eqb}
use Rattle.octets.specs.Counting.{tabulate}
use Rattle.octets.specs.Octets.{byte, word32, le32, part, all_zero, sum, checksum, differs}
use Rattle.table_header.specs.Verdict.{Test, refuse, refuse_with}

-- the Length field
abbrev pub length_of : List ℕ → ℕ
length_of t = word32 t 4

-- after the first zero byte all bytes are zero
unfoldable pub padded : List ℕ → Bool
padded [] = true
padded (b ∷ t) = cond (eqb b 0) (all_zero t) (padded t)

-- the header of a table with this signature, at least so many bytes lent and of at least this Length. With 6 comes the byte
-- with which, at 9, the Length bytes would sum to 0 modulo 256
unfoldable pub header_tests : ℕ → ℕ → ℕ → List ℕ → List Test
header_tests signature least_lent least_length t =
    refuse 3 0 (ltb (length t) least_lent)
    ∷ refuse 4 0 (differs (word32 t 0) signature)
    ∷ refuse 5 4 (ltb (length_of t) least_length)
    ∷ refuse 5 4 (ltb (length t) (length_of t))
    ∷ refuse_with 6 9 (checksum (take (length_of t) t) 9) (differs (sum (take (length_of t) t) % 256) 0)
    ∷ refuse 7 8 (differs (byte t 8) 1)
    ∷ refuse 8 10 (not (padded (part t 10 6)))
    ∷ refuse 8 16 (not (padded (part t 16 8)))
    ∷ []

-- the n bytes from `at` on are reserved: each is zero, the lowest that is not is refused
unfoldable pub reserved_tests : List ℕ → ℕ → ℕ → List Test
reserved_tests t at n = tabulate (λ (i : ℕ). refuse 30 i (differs (byte t i) 0)) at n

-- a header up to the OEM fields: signature, Length, Revision 1, Checksum (not yet set)
abbrev pub header_start : ℕ → ℕ → List ℕ
header_start signature length = le32 signature ++ (le32 length ++ (1 ∷ 0 ∷ []))

-- a table with this header, its checksum not yet set, and these bytes behind it
unfoldable pub headed : ℕ → ℕ → List ℕ → List ℕ → List ℕ → List ℕ
headed signature length oem_id oem_table_id behind = header_start signature length ++ (oem_id ++ (oem_table_id ++ behind))

-- the checksum comes last
unfoldable pub sealed : List ℕ → List ℕ
sealed t = set t 9 (checksum t 9)
