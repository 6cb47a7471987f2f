-- Laws of the writing of a whole table.
--     header-put                 what the header's writer leaves
--     checksum-put               what the checksum's writer leaves
--     behind-put                 the bytes behind the header, put behind it
--     sealed-put                 the checksum, put last: the room starts with the table
--     write-accepted             what is so where a write is accepted
--     room-kept, room-filled     the room after a refused write, and after an accepted one
--     writes                     what is promised of a write, from what its table says
-- Assumes nothing.
use Rattle.std.specs.Prelude.{Ok, Err}
use mathlib.Core.Path.{◌≡◌, refl, sym, ap, ap₂, ◌∙◌, subst}
use mathlib.Core.Bool.{true}
use mathlib.Core.List.{List, [], ◌∷◌, ◌++◌, append_assoc, append-nil}
use Prim.Native.Nat.{ℕ, ◌+◌, ◌-◌, ◌≤◌, ◌<◌}
use native.Mathlib.Omega.{arith}
use borrow.Author.Tests.{ltb-false, not-false}
use lib.ListN.{length, take, drop, set, length-append, length-set}
use lib.Seq.{take-append-add, take_at, drop_at, set-append_left}
use Rattle.octets.specs.Octets.{byte, part, bytes_at, checksum, write}
use Rattle.octets.specs.Promises.{ChecksumByte}
use Rattle.octets.proofs.ReadLaws.{length-bytes_past, part-whole}
use Rattle.octets.proofs.WriteLaws.{write-front, write-halves, set-write}
use Rattle.table_header.specs.Verdict.{first_of, refusal_of, Verdict, Accepted, Refused}
use Rattle.table_header.specs.Header.{length_of, padded, header_start, headed, sealed}
use Rattle.table_header.specs.Write.{write_tests, written_from, room_from}
use Rattle.table_header.specs.Promises.{Says, Accepts, Writes}
use Rattle.table_header.specs.declared.verdict.Refusal.{Refusal}
use Rattle.table_header.specs.declared.write.Written.{Written}
use Rattle.table_header.proofs.VerdictLaws.{passes, every-none, every-next, every_first}

-- the header's start, then the two OEM fields, each right behind the other
pub header-put : (t u v w image start id table_id : List ℕ) (signature size : ℕ) → start ≡ header_start signature size → u ≡ write t 0 start
    → id ≡ bytes_at image 10 6 → v ≡ write u 10 id → table_id ≡ bytes_at image 16 8 → w ≡ write v 16 table_id
    → w ≡ write t 0 (headed signature size (bytes_at image 10 6) (bytes_at image 16 8) [])
unfolding headed
header-put t u v w image start id table_id signature size es eu ei ev et ew =
    let head : List ℕ = header_start signature size in
    let oem_id : List ℕ = bytes_at image 10 6 in
    let oem_table_id : List ℕ = bytes_at image 16 8 in
    let six : length oem_id ≡ 6 = length-bytes_past image 10 0 6 in
    let first : v ≡ write t 0 (head ++ oem_id) =
    write-halves t u v 0 10 head oem_id (head ++ oem_id) (eu ∙ ap (write t 0) es) (ev ∙ ap (write u 10) ei) refl refl in
    let whole : (head ++ oem_id) ++ oem_table_id ≡ head ++ (oem_id ++ (oem_table_id ++ [])) =
    append_assoc head oem_id oem_table_id ∙ ap (λ (l : List ℕ). head ++ (oem_id ++ l)) (sym (append-nil oem_table_id)) in
    write-halves t v w 0 16 (head ++ oem_id) oem_table_id _ first (ew ∙ ap (write v 16) et) (omega arith) whole

pub checksum-put : (t table w : List ℕ) (size byte : ℕ) → table ≡ part t 0 size → byte ≡ checksum table 9 → w ≡ write t 9 (byte ∷ [])
    → w ≡ write t 9 (checksum (take size t) 9 ∷ [])
checksum-put t table w size byte et eb ew =
    ew ∙ ap (λ (b : ℕ). write t 9 (b ∷ [])) (eb ∙ ap (λ (l : List ℕ). checksum l 9) (et ∙ part-whole t size))

module _ (signature long : ℕ) (oem_id oem_table_id behind : List ℕ) (six : length oem_id ≡ 6) (eight : length oem_table_id ≡ 8) where
  -- u has the header at its start, w the bytes behind it as well
  pub behind-put : (t u w : List ℕ) → u ≡ write t 0 (headed signature long oem_id oem_table_id []) → w ≡ write u 24 behind
      → w ≡ write t 0 (headed signature long oem_id oem_table_id behind)
  unfolding headed
  behind-put t u w eu ew =
      let head : List ℕ = header_start signature long in
      let place : 24 ≡ 0 + length (head ++ (oem_id ++ (oem_table_id ++ []))) =
      omega (arith, length-append oem_id (oem_table_id ++ []), ap length (append-nil oem_table_id)) in
      let whole : (head ++ (oem_id ++ (oem_table_id ++ []))) ++ behind ≡ head ++ (oem_id ++ (oem_table_id ++ behind)) =
      append_assoc head (oem_id ++ (oem_table_id ++ [])) behind
      ∙ ap (λ (l : List ℕ). head ++ l) (append_assoc oem_id (oem_table_id ++ []) behind)
      ∙ ap (λ (l : List ℕ). head ++ (oem_id ++ (l ++ behind))) (append-nil oem_table_id) in
      write-halves t u w 0 24 (head ++ (oem_id ++ (oem_table_id ++ []))) behind _ eu ew place whole

-- u has the table at its start, its checksum not yet set, w has it set
pub sealed-put : (t u w bare : List ℕ) (long : ℕ) → length bare ≡ long → 9 < long → long ≤ length t → u ≡ write t 0 bare
    → w ≡ write u 9 (checksum (take long u) 9 ∷ []) → w ≡ sealed bare ++ drop (length (sealed bare)) t
unfolding sealed
sealed-put t u w bare long size past fits eu ew =
    let front : u ≡ bare ++ drop (length bare) t = eu ∙ write-front t bare (omega arith) in
    let table : take long u ≡ bare = ap (take long) front ∙ take_at bare (drop (length bare) t) long size in
    let mark : ℕ = checksum bare 9 in
    let same : length bare ≡ length (set bare 9 mark) = sym (length-set bare 9 mark) in
    ew
    ∙ ap₂ (λ (l m : List ℕ). write l 9 (checksum m 9 ∷ [])) front table
    ∙ sym (set-write (bare ++ drop (length bare) t) 9 mark)
    ∙ set-append_left bare (drop (length bare) t) 9 mark (omega arith)
    ∙ ap (λ (n : ℕ). set bare 9 mark ++ drop n t) same

-- ---- the verdict of a write

module _ (oem_id oem_table_id : List ℕ) (long n : ℕ) where
  -- accepted: the OEM fields are padded and the table fits
  pub write-accepted : first_of (write_tests oem_id oem_table_id long n) ≡ Accepted → (padded oem_id ≡ true) × (padded oem_table_id ≡ true) × (long ≤ n)
  unfolding write_tests
  write-accepted e =
      let first = passes _ _ e in
      let second = passes _ _ first.1 in
      let third = passes _ _ second.1 in
      (not-false (padded oem_id) first.0, not-false (padded oem_table_id) second.0, ltb-false n long third.0)

  -- refused: with a number that is not 0
  write-refused : (r : Refusal) → first_of (write_tests oem_id oem_table_id long n) ≡ Refused r → r.number ≡ 0 → ⊥
  unfolding write_tests
  write-refused = every_first {P = λ (r : Refusal). r.number ≡ 0 → ⊥}
      (every-next (λ e. omega arith) (every-next (λ e. omega arith) (every-next (λ e. omega arith) every-none)))

module _ (table before : List ℕ) (v : Verdict) where
  pub room-kept : (r : Refusal) → v ≡ Refused r → before ≡ room_from table before v
  unfolding room_from
  room-kept r e = sym (ap (room_from table before) e)

  pub room-filled : v ≡ Accepted → table ++ drop (length table) before ≡ room_from table before v
  unfolding room_from
  room-filled e = sym (ap (room_from table before) e)

-- ---- the promise, for a family's check and meaning, of a table of `long` bytes written into a room that held `before`

module _ {R : Type 0} (check : List ℕ → Verdict) (record_of : List ℕ → R) (given : R) (oem_id oem_table_id table before : List ℕ) (long : ℕ)
    (size : length table ≡ long) (stands : ChecksumByte table 9 (byte table 9)) (length-is : (rest : List ℕ) → length_of (table ++ rest) ≡ long)
    (says : padded oem_id ≡ true → padded oem_table_id ≡ true → (rest : List ℕ) → Says check record_of given (table ++ rest)) where
  abbrev verdict : Verdict
  verdict = first_of (write_tests oem_id oem_table_id long (length before))

  accepts : verdict ≡ Accepted → (after : List ℕ) → after ≡ table ++ drop (length table) before → Accepts check record_of given before long after
  accepts e after is =
      let w = write-accepted oem_id oem_table_id long (length before) e in
      record {
        length-is = ap length_of is ∙ length-is (drop (length table) before);
        fits = w.2;
        rest = ap (drop long) is ∙ drop_at table (drop (length table) before) long size ∙ ap (λ (n : ℕ). drop n before) size;
        checksum-stands =
            let front : table ≡ take long after = sym (ap (take long) is ∙ take_at table (drop (length table) before) long size) in
            subst (λ (u : List ℕ). ChecksumByte u 9 (byte u 9)) front stands;
        says = λ m h.
            let split : length table + (m - long) ≡ m = omega (arith, size) in
            let cut : take m after ≡ table ++ take (m - long) (drop (length table) before) =
            ap (take m) is ∙ ap (λ (n : ℕ). take n (table ++ drop (length table) before)) (sym split)
            ∙ take-append-add table (drop (length table) before) (m - long) in
            rw cut (says w.0 w.1 (take (m - long) (drop (length table) before)));
      }

  writes-by : (v : Verdict) → verdict ≡ v → (answer : Written) (after : List ℕ) → answer ≡ written_from long v → after ≡ room_from table before v
      → Writes check record_of given (written_from long v) (room_from table before v) before answer after
  unfolding written_from room_from refusal_of
  writes-by (Ok u) e answer after ea er =
      record {
        answer-is = ea;
        room-is = er;
        refused = λ no. absurd (no (ap (λ (w : Written). w.refusal.number) ea));
        accepted = λ z. rw (ap (λ (w : Written). w.length) ea) (accepts e after er);
      }
  writes-by (Err r) e answer after ea er =
      record {
        answer-is = ea;
        room-is = er;
        refused = λ no. (ap (λ (w : Written). w.length) ea, er);
        accepted = λ z. absurd (write-refused oem_id oem_table_id long (length before) r e (sym (ap (λ (w : Written). w.refusal.number) ea) ∙ z));
      }

  pub writes : (v : Verdict) → v ≡ verdict → (answer : Written) (after : List ℕ) → answer ≡ written_from long v → after ≡ room_from table before v
      → Writes check record_of given (written_from long verdict) (room_from table before verdict) before answer after
  writes v judged answer after ea er =
      writes-by verdict refl answer after (ea ∙ ap (written_from long) judged) (er ∙ ap (room_from table before) judged)
