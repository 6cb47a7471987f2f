-- Laws of the scan: a loop by 16 passes over no sound place, and what the definition answers is what the promises say.
--     unaligned, sixteen-more     no place between two multiples of 16 is sound
--     sound-within                a sound place has its table in the window and in the bytes lent
--     sound-sums                  and its checksum byte stands there
--     lowest-at, lowest-none      what a search finds that leaves no sound place behind it
--     scan-promises               the promises, from the definition's answer
--     shows_nothing, shows-table  the same of the table shown
-- Assumes nothing.
use mathlib.Core.Path.{◌≡◌, sym, ap, ◌∙◌}
use mathlib.Core.List.{List, []}
use mathlib.Core.Bool.{true, false, and-false}
use Prim.Native.Nat.{ℕ, ◌+◌, ◌-◌, ◌%◌, ◌≤◌, ◌<◌}
use native.Mathlib.Decide.{dec_lt, dec_le}
use native.Mathlib.Omega.{arith}
use borrow.Author.Tests.{ne_eqb, eq-eqb, lt-ltb, le-ltb, lt-leb}
use lib.Dec.{eqb}
use lib.ListN.{length}
use denote.Ref.{Bor}
use Rattle.octets.specs.Octets.{byte, part, sum, checksum}
use Rattle.octets.specs.Promises.{ChecksumByte}
use Rattle.octets.specs.View.{Shows}
use Rattle.octets.proofs.CountingLaws.{clash, first-is, first-hit, first_below}
use Rattle.octets.proofs.ReadLaws.{part-byte}
use Rattle.octets.proofs.SumLaws.{checksum-stands, checksum-byte}
use Rattle.scan.specs.Scan.{length_at, sound_at, lowest, refused, scan_at, scan_of, shown_of, table_of}
use Rattle.scan.specs.Promises.{Promise, View}
use Rattle.scan.specs.declared.Family.{Family}
use Rattle.scan.specs.declared.Scanned.{Scanned}

-- the test of the sum, by the checksum byte
pub sums-to-zero : (t : List ℕ) (i : ℕ) → byte t i < 256 → eqb (checksum t i) (byte t i) ≡ eqb (sum t % 256) 0
sums-to-zero t i h =
    let stands = checksum-stands t i h in
    elim (dec_lt 0 (sum t % 256)) [
      | yes h ↦
          let nonzero : (sum t % 256 ≡ 0 → ⊥) = λ e. omega arith in
          ne_eqb (checksum t i) (byte t i) (λ e. nonzero (stands.0 e)) ∙ sym (ne_eqb (sum t % 256) 0 nonzero)
      | no h ↦
          let zero : sum t % 256 ≡ 0 = omega arith in
          eq-eqb (checksum t i) (byte t i) (stands.1 zero) ∙ sym (eq-eqb (sum t % 256) 0 zero)
    ]

module _ (f : Family) (mem : List ℕ) (address : ℕ) where
  -- ---- sound places

  pub unaligned : (i : ℕ) → ((address + i) % 16 ≡ 0 → ⊥) → sound_at f mem address i ≡ false
  unfolding sound_at
  unaligned i h = rw (ne_eqb _ _ h)

  pub sixteen-more : (k : ℕ) → (address + k) % 16 ≡ 0 → sound_at f mem address k ≡ false
      → ((i : ℕ) → i < k → sound_at f mem address i ≡ false) → (i : ℕ) → i < k + 16 → sound_at f mem address i ≡ false
  sixteen-more k aligned here below i lt =
      elim (dec_lt i k) [
        | yes h ↦ below i h
        | no h ↦
            elim (dec_lt k i) [
              | yes g ↦ unaligned i (omega arith)
              | no g ↦ let e : i ≡ k = omega arith in rw (e, here)
            ]
      ]

  pub sound-within : (k : ℕ) → sound_at f mem address k ≡ true → k + length_at mem k ≤ length mem
  unfolding sound_at
  sound-within k e =
      elim (dec_le (k + length_at mem k) (length mem)) [
        | yes h ↦ h
        | no h ↦
            let fails : sound_at f mem address k ≡ false = simp (lt-leb (k + length_at mem k) (length mem) (omega arith), and-false) in
            clash e fails
      ]

  pub sound-sums : (k : ℕ) → ((j : ℕ) → byte mem j < 256) → sound_at f mem address k ≡ true
      → ChecksumByte (part mem k (length_at mem k)) 9 (byte (part mem k (length_at mem k)) 9)
  unfolding sound_at
  sound-sums k bytes e =
      let table : List ℕ = part mem k (length_at mem k) in
      let small : byte table 9 < 256 = part-byte mem k (length_at mem k) 9 bytes in
      elim (dec_lt 0 (sum table % 256)) [
        | yes h ↦
            let fails : sound_at f mem address k ≡ false = simp (ne_eqb (sum table % 256) 0 (λ z. omega arith), and-false) in
            clash e fails
        | no h ↦ checksum-byte table 9 (byte table 9) (sym ((checksum-stands table 9 small).1 (omega arith)))
      ]

  -- ---- the lowest of them

  pub lowest-at : (k : ℕ) → k < length mem → sound_at f mem address k ≡ true → ((i : ℕ) → i < k → sound_at f mem address i ≡ false)
      → k ≡ lowest f mem address
  unfolding lowest
  lowest-at k lt hit below = sym (first-is (length mem) (sound_at f mem address) k (omega arith) below (λ h. hit))

  pub lowest-none : (k : ℕ) → length mem ≤ k → ((i : ℕ) → i < k → sound_at f mem address i ≡ false) → length mem ≡ lowest f mem address
  unfolding lowest
  lowest-none k le below =
      sym (first-is (length mem) (sound_at f mem address) (length mem) (omega arith) (λ i h. below i (omega arith)) (λ h. absurd (omega arith)))

  -- ---- what the definition answers

  pub scan-above : f.high < address + length mem → scan_of f mem address ≡ refused 1
  unfolding scan_of
  scan-above h = rw (lt-ltb f.high (address + length mem) h)

  pub scan-none : (f.high < address + length mem → ⊥) → length mem ≤ lowest f mem address → scan_of f mem address ≡ refused 2
  unfolding scan_of scan_at
  scan-none n h = rw (le-ltb f.high (address + length mem) (omega arith), le-ltb (lowest f mem address) (length mem) h)

  pub scan-found : (f.high < address + length mem → ⊥) → lowest f mem address < length mem
      → scan_of f mem address ≡ record { number = 0; address = address + lowest f mem address; length = length_at mem (lowest f mem address) }
  unfolding scan_of scan_at
  scan-found n h = rw (le-ltb f.high (address + length mem) (omega arith), lt-ltb (lowest f mem address) (length mem) h)

  -- ---- the promises, in each of the three cases

  promises-above : (answer : Scanned) → answer ≡ scan_of f mem address → f.high < address + length mem → Promise f mem address answer
  promises-above answer e h =
      let is : answer ≡ refused 1 = e ∙ scan-above h in
      let number : answer.number ≡ 1 = ap (λ (s : Scanned). s.number) is in
      record {
        answer-is = e;
        above = (λ n. h, λ n. number);
        no_place = (λ n. absurd (omega arith), λ p. absurd (p.0 h));
        found = (λ n. absurd (omega arith), λ p. absurd (p.0 h));
        checksum-stands = λ n. absurd (omega arith);
        refused = λ n. (ap (λ (s : Scanned). s.address) is, ap (λ (s : Scanned). s.length) is);
      }

  promises-none : (answer : Scanned) → answer ≡ scan_of f mem address → (f.high < address + length mem → ⊥)
      → length mem ≤ lowest f mem address → Promise f mem address answer
  unfolding lowest
  promises-none answer e within h =
      let is : answer ≡ refused 2 = e ∙ scan-none within h in
      let number : answer.number ≡ 2 = ap (λ (s : Scanned). s.number) is in
      let none : ((i : ℕ) → i < length mem → sound_at f mem address i ≡ false) = λ i l. first_below (length mem) (sound_at f mem address) i (omega arith) in
      record {
        answer-is = e;
        above = (λ n. absurd (omega arith), λ p. absurd (within p));
        no_place = (λ n. (within, none), λ p. number);
        found = (λ n. absurd (omega arith), λ p. clash p.1.sound (none p.1.k p.1.lent));
        checksum-stands = λ n. absurd (omega arith);
        refused = λ n. (ap (λ (s : Scanned). s.address) is, ap (λ (s : Scanned). s.length) is);
      }

  promises-found : ((i : ℕ) → byte mem i < 256) → (answer : Scanned) → answer ≡ scan_of f mem address → (f.high < address + length mem → ⊥)
      → lowest f mem address < length mem → Promise f mem address answer
  unfolding lowest
  promises-found bytes answer e within h =
      let is = e ∙ scan-found within h in
      let number : answer.number ≡ 0 = ap (λ (s : Scanned). s.number) is in
      let hit : sound_at f mem address (lowest f mem address) ≡ true = first-hit (length mem) (sound_at f mem address) h in
      record {
        answer-is = e;
        above = (λ n. absurd (omega arith), λ p. absurd (within p));
        no_place = (λ n. absurd (omega arith), λ p. clash hit (p.1 (lowest f mem address) h));
        found = (
          λ n. (
            within,
            record {
              k = lowest f mem address;
              lent = h;
              sound = hit;
              lowest = λ i l. first_below (length mem) (sound_at f mem address) i l;
              at = ap (λ (s : Scanned). s.address) is;
              long = ap (λ (s : Scanned). s.length) is;
            },
          ),
          λ p. number,
        );
        checksum-stands = λ n k at.
            let here : lowest f mem address ≡ k = omega (arith, at, ap (λ (s : Scanned). s.address) is) in
            rw (← here, ap (λ (s : Scanned). s.length) is) (sound-sums (lowest f mem address) bytes hit);
        refused = λ n. absurd (n number);
      }

  -- whatever answers as the definition does keeps the promises
  pub scan-promises : ((i : ℕ) → byte mem i < 256) → (answer : Scanned) → answer ≡ scan_of f mem address → Promise f mem address answer
  scan-promises bytes answer e =
      elim (dec_lt f.high (address + length mem)) [
        | yes h ↦ promises-above answer e h
        | no h ↦
            elim (dec_lt (lowest f mem address) (length mem)) [
              | yes l ↦ promises-found bytes answer e h l
              | no l ↦ promises-none answer e h (omega arith)
            ]
      ]

  -- ---- the table shown

  pub found_within : (answer : Scanned) → Promise f mem address answer → answer.number ≡ 0
      → (answer.address - address + answer.length ≤ length mem) × (address ≤ answer.address) × (address + length mem ≤ f.high)
  found_within answer p zero =
      let within = (p.found.0 zero).0 in
      let l = (p.found.0 zero).1 in
      let inside = sound-within l.k l.sound in
      let at = l.at in
      let long = l.long in
      (omega arith, omega arith, omega arith)

  -- a scan's address is no higher than the window's end
  pub address_below : (answer : Scanned) → Promise f mem address answer → answer.address ≤ f.high
  address_below answer p =
      elim (dec_lt 0 answer.number) [
        | yes h ↦ omega (arith, (p.refused (λ z. omega arith)).0)
        | no h ↦
            let l = (p.found.0 (omega arith)).1 in
            let lent = l.lent in
            omega (arith, l.at, (found_within answer p (omega arith)).2)
      ]

-- a refused scan shows no bytes
pub shows_nothing : (f : Family) (lent view : Bor (List ℕ)) (address : ℕ) (answer : Scanned) → answer ≡ scan_of f lent.now address
    → (answer.number ≡ 0 → ⊥) → view.now ≡ [] → View f lent address view
unfolding table_of shown_of
shows_nothing f lent view address answer e refusal none =
    let number : answer.number ≡ (scan_of f lent.now address).number = ap (λ (s : Scanned). s.number) e in
    record {
      view-is = none ∙ sym (rw (ne_eqb (scan_of f lent.now address).number 0 (λ z. refusal (number ∙ z))));
      found = λ k z at. absurd (refusal (number ∙ z));
      refused = λ z. none;
    }

-- a scan that finds a table shows that stretch of the memory
pub shows-table : (f : Family) (lent view : Bor (List ℕ)) (address : ℕ) (answer : Scanned) → answer ≡ scan_of f lent.now address
    → answer.number ≡ 0 → Shows lent view (answer.address - address) answer.length → View f lent address view
unfolding table_of shown_of
shows-table f lent view address answer e zero shows =
    let s = scan_of f lent.now address in
    let number : s.number ≡ 0 = ap (λ (s : Scanned). s.number) (sym e) ∙ zero in
    let here : Shows lent view (s.address - address) s.length = rw (← e) shows in
    record {
      view-is = here.bytes ∙ sym (rw (eq-eqb s.number 0 number));
      found = λ k z at. let place : s.address - address ≡ k = omega arith in rw (← place) here;
      refused = λ z. absurd (z number);
    }
