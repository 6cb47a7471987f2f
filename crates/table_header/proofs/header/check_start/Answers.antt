-- `check_start` meets its contract. After the k-th test has passed, the verdict of all tests is that of the tests behind it
-- (`pass1` to `pass6`). Assumes nothing.
use Rattle.std.proofs.Common.{◌≡◌, ◌%◌, ◌≤◌, ℕ, List, length, take, sym, ap, ◌∙◌, arith, rules, lt-ltb, le-ltb, eq-eqb, ne_eqb}
use Rattle.octets.specs.Octets.{byte, word32, sum}
use Rattle.table_header.specs.Verdict.{Test, first_of, refusal_with, Refused}
use Rattle.table_header.specs.Header.{length_of, header_tests}
use Rattle.table_header.proofs.VerdictLaws.{Passed}
use Rattle.table_header.proofs.HeaderLaws.{sum-stands, sum_tells}
use Rattle.table_header.proofs.header.check_start.Goals as goal

module _ (signature least_lent least_length : ℕ) (t : List ℕ) where
  abbrev tests : List Test
  tests = take 6 (header_tests signature least_lent least_length t)

  pass1 : least_lent ≤ length t → Passed tests 1
  unfolding first_of header_tests
  pass1 lent = rw (le-ltb (length t) least_lent lent)

  pass2 : Passed tests 1 → word32 t 0 ≡ signature → Passed tests 2
  unfolding first_of header_tests
  pass2 before signed = before ∙ rw (eq-eqb (word32 t 0) signature signed)

  pass3 : Passed tests 2 → least_length ≤ length_of t → Passed tests 3
  unfolding first_of header_tests
  pass3 before long = before ∙ rw (le-ltb (length_of t) least_length long)

  pass4 : Passed tests 3 → length_of t ≤ length t → Passed tests 4
  unfolding first_of header_tests
  pass4 before within = before ∙ rw (le-ltb (length t) (length_of t) within)

  pass5 : Passed tests 4 → sum (take (length_of t) t) % 256 ≡ 0 → Passed tests 5
  unfolding first_of header_tests
  pass5 before sealed = before ∙ rw (eq-eqb (sum (take (length_of t) t) % 256) 0 sealed)

  pass6 : Passed tests 5 → byte t 8 ≡ 1 → Passed tests 6
  unfolding first_of header_tests
  pass6 before revision = before ∙ rw (eq-eqb (byte t 8) 1 revision)

pub returns-then-t-least_lent : goal.returns-then-t-least_lent
unfolding first_of header_tests
returns-then-t-least_lent c =
    c.refuse.ensures ∙ sym (rw (lt-ltb (length c.args.t.now) c.args.least_lent (omega arith)))

pub returns-then-u32_at-signature : goal.returns-then-u32_at-signature
unfolding first_of header_tests
returns-then-u32_at-signature c =
    let p1 = pass1 c.args.signature c.args.least_lent c.args.least_length c.args.t.now (omega arith) in
    c.refuse-then-u32_at-signature.ensures ∙ sym (p1 ∙ rw (ne_eqb (word32 c.args.t.now 0) c.args.signature (omega arith)))

pub returns-then-length-least_length : goal.returns-then-length-least_length
unfolding first_of header_tests
returns-then-length-least_length c =
    let a = c.args in
    let p1 = pass1 a.signature a.least_lent a.least_length a.t.now (omega arith) in
    let p2 = pass2 a.signature a.least_lent a.least_length a.t.now p1 (omega arith) in
    c.refuse-then-length-least_length.ensures ∙ sym (p2 ∙ rw (lt-ltb (length_of a.t.now) a.least_length (omega arith)))

pub returns-then-t-length : goal.returns-then-t-length
unfolding first_of header_tests
returns-then-t-length c =
    let a = c.args in
    let p1 = pass1 a.signature a.least_lent a.least_length a.t.now (omega arith) in
    let p2 = pass2 a.signature a.least_lent a.least_length a.t.now p1 (omega arith) in
    let p3 = pass3 a.signature a.least_lent a.least_length a.t.now p2 (omega arith) in
    c.refuse-then-t-length.ensures ∙ sym (p3 ∙ rw (lt-ltb (length a.t.now) (length_of a.t.now) (omega arith)))

pub returns-then-right-stands : goal.returns-then-right-stands
unfolding first_of header_tests
returns-then-right-stands c =
    let a = c.args in
    let t = a.t.now in
    let p1 = pass1 a.signature a.least_lent a.least_length t (omega arith) in
    let p2 = pass2 a.signature a.least_lent a.least_length t p1 (omega arith) in
    let p3 = pass3 a.signature a.least_lent a.least_length t p2 (omega arith) in
    let p4 = pass4 a.signature a.least_lent a.least_length t p3 (omega arith) in
    let sealed = sum-stands t _ _ _ c.part-table.ensures.bytes c.checksum-right.ensures _ c.byte_at-stands.ensures (search rules) in
    let right = sum_tells t _ _ _ c.part-table.ensures.bytes c.checksum-right.ensures in
    c.refuse_with.ensures ∙ ap (λ (b : ℕ). Refused (refusal_with 6 9 b)) right
    ∙ sym (p4 ∙ rw (← c.length_of-length.ensures, ne_eqb _ _ (λ z. c.if-right-stands.true (sealed.1 z))))

pub returns-then-byte_at-ne-REVISION : goal.returns-then-byte_at-ne-REVISION
unfolding first_of header_tests
returns-then-byte_at-ne-REVISION c =
    let a = c.args in
    let t = a.t.now in
    let p1 = pass1 a.signature a.least_lent a.least_length t (omega arith) in
    let p2 = pass2 a.signature a.least_lent a.least_length t p1 (omega arith) in
    let p3 = pass3 a.signature a.least_lent a.least_length t p2 (omega arith) in
    let p4 = pass4 a.signature a.least_lent a.least_length t p3 (omega arith) in
    let sealed = sum-stands t _ _ _ c.part-table.ensures.bytes c.checksum-right.ensures _ c.byte_at-stands.ensures (search rules) in
    let p5 = pass5 a.signature a.least_lent a.least_length t p4 (rw (← c.length_of-length.ensures) (sealed.0 c.if-right-stands.false)) in
    c.refuse-then-byte_at-ne-REVISION.ensures ∙ sym (p5 ∙ rw (ne_eqb (byte t 8) 1 (omega arith)))

pub returns : goal.returns
unfolding first_of header_tests
returns c =
    let a = c.args in
    let t = a.t.now in
    let p1 = pass1 a.signature a.least_lent a.least_length t (omega arith) in
    let p2 = pass2 a.signature a.least_lent a.least_length t p1 (omega arith) in
    let p3 = pass3 a.signature a.least_lent a.least_length t p2 (omega arith) in
    let p4 = pass4 a.signature a.least_lent a.least_length t p3 (omega arith) in
    let sealed = sum-stands t _ _ _ c.part-table.ensures.bytes c.checksum-right.ensures _ c.byte_at-stands.ensures (search rules) in
    let p5 = pass5 a.signature a.least_lent a.least_length t p4 (rw (← c.length_of-length.ensures) (sealed.0 c.if-right-stands.false)) in
    sym (pass6 a.signature a.least_lent a.least_length t p5 (omega arith))
