-- Laws of the entries that a record range gives.
--     limit-most, limit-below   the limit that code is lent is no more than all entries, so each below it is an entry
--     entry-some, entry-none    an entry that is present, and one that is missing
--     entries-past              from the limit on entries are missing
--     field-on, field_past      where the range holds its words, as the code returns it; from the limit on nowhere
--     fields_at, fields-count   what stands in the list of these
--     start_is, length-is       its start and its length, as the code reads them
--     wanted-on, wanted-off     what it wants in the heap, as the code returns it
--     wanted-past               from the limit on nothing
--     wanted-at, wanted-there, wanted-count     what stands in the list of these
--     bytes-length, bytes-part  how long its bytes are, and where they stand
--     lies_at                   an entry that wants something is present, lies in the strings range, and its bytes are as long
--                               as it wants
-- Assumes nothing.
use Rattle.std.specs.Prelude.{None, Some}
use mathlib.Core.Path.{◌≡◌, refl, sym, ap, ap₂, ◌∙◌}
use mathlib.Core.Bool.{Bool, true, false, cond}
use mathlib.Core.List.{List}
use Prim.Native.Nat.{ℕ, ◌+◌, ◌-◌, ◌≤◌, ◌<◌}
use native.Mathlib.Omega.{arith}
use lib.ListN.{length, get_or}
use borrow.Author.Tests.{lt-ltb, le-ltb}
use Rattle.octets.proofs.CountingLaws.{length-tabulate, get_d_tabulate}
use Rattle.octets.specs.Octets.{word16, part}
use Rattle.octets.proofs.ReadLaws.{part_length}
use Rattle.ibft_layout.specs.Layout.{entry_count, owner_of, string_of}
use Rattle.ibft_table.specs.Record.{shown_if}
use Rattle.ibft_build_rules.specs.RecordRange.{image_at, entry_given, length_given, start_given, bytes_given, content_given}
use Rattle.ibft_record.specs.Limits.{entry_limit}
use Rattle.ibft_build.specs.Planning.{Readable, field_given, entry_fields, entries_given, wanted_given, wanted_sizes}
use Rattle.ibft_record.proofs.RecordLaws.{entry_past, entry-limit-most}

pub limit-most : (r : List ℕ) (limit : ℕ) → limit ≡ entry_limit r → limit ≤ entry_count
limit-most r limit e = omega (arith, entry-limit-most r)

pub limit-below : (r : List ℕ) (n : ℕ) → n < entry_limit r → n < entry_count
limit-below r n h = omega (arith, entry-limit-most r)

module _ (r s : List ℕ) (n : ℕ) where
  pub entry-some : entry_given r n ≡ true → entries_given r s n ≡ Some (bytes_given r s n)
  unfolding content_given
  entry-some h = ap (λ (b : Bool). shown_if b (bytes_given r s n)) h

  pub entry-none : entry_given r n ≡ false → entries_given r s n ≡ None
  unfolding content_given
  entry-none h = ap (λ (b : Bool). shown_if b (bytes_given r s n)) h

  pub entries-past : entry_limit r ≤ n → entries_given r s n ≡ None
  entries-past h = entry-none (entry_past r n h)

-- ---- where the range holds an entry's words

module _ (r : List ℕ) (n : ℕ) where
  pub field-on : n < entry_limit r → image_at r (owner_of n) + (string_of n).at ≡ field_given r n
  unfolding field_given
  field-on h = rw (lt-ltb n (entry_limit r) h)

  pub field_past : entry_limit r ≤ n → field_given r n ≡ 0
  unfolding field_given
  field_past h = rw (le-ltb n (entry_limit r) h)

  -- v is what the code reads at f
  pub length-is : (f v : ℕ) → f ≡ image_at r (owner_of n) + (string_of n).at → v ≡ word16 r f → v ≡ length_given r n
  unfolding length_given
  length-is f v at e = e ∙ ap (word16 r) at

module _ (r fields : List ℕ) (are : fields ≡ entry_fields r) where
  pub fields-count : length fields ≡ entry_count
  unfolding entry_fields
  fields-count = ap length are ∙ length-tabulate (field_given r) 0 entry_count

  pub fields_at : (n : ℕ) → n < entry_limit r → get_or fields n 0 ≡ image_at r (owner_of n) + (string_of n).at
  unfolding entry_fields
  fields_at n h =
      ap (λ (l : List ℕ). get_or l n 0) are ∙ get_d_tabulate (field_given r) entry_count n 0 (omega (arith, entry-limit-most r)) ∙ sym (field-on r n h)

  pub start_is : (n : ℕ) → n < entry_limit r → (v : ℕ) → v ≡ word16 r (get_or fields n 0 + 2) → v ≡ start_given r n
  unfolding start_given
  start_is n h v e = e ∙ ap (λ (a : ℕ). word16 r (a + 2)) (fields_at n h)

-- ---- what an entry wants

module _ (r : List ℕ) (n : ℕ) where
  pub wanted-on : entry_given r n ≡ true → (l : ℕ) → l ≡ length_given r n → l + 1 ≡ wanted_given r n
  unfolding wanted_given
  wanted-on h l e = ap (λ (m : ℕ). m + 1) e ∙ sym (ap (λ (b : Bool). cond b (length_given r n + 1) 0) h)

  pub wanted-off : entry_given r n ≡ false → 0 ≡ wanted_given r n
  unfolding wanted_given
  wanted-off h = sym (ap (λ (b : Bool). cond b (length_given r n + 1) 0) h)

  pub wanted-past : entry_limit r ≤ n → wanted_given r n ≡ 0
  wanted-past h = sym (wanted-off (entry_past r n h))

  pub wanted-given : 0 < wanted_given r n → entry_given r n ≡ true
  wanted-given h = go (entry_given r n) refl
    where
      go : (b : Bool) → entry_given r n ≡ b → entry_given r n ≡ true
      go true e = e
      go false e = absurd (omega (arith, wanted-off e))

  pub wanted-missing : wanted_given r n ≡ 0 → entry_given r n ≡ false
  wanted-missing h = go (entry_given r n) refl
    where
      go : (b : Bool) → entry_given r n ≡ b → entry_given r n ≡ false
      go true e = absurd (omega (arith, wanted-on e (length_given r n) refl))
      go false e = e

pub wanted-at : (r wanted : List ℕ) → wanted ≡ wanted_sizes r → (n : ℕ) → n < entry_count → get_or wanted n 0 ≡ wanted_given r n
unfolding wanted_sizes
wanted-at r wanted e n h = ap (λ (l : List ℕ). get_or l n 0) e ∙ get_d_tabulate (wanted_given r) entry_count n 0 h

pub wanted-there : (r wanted : List ℕ) → wanted ≡ wanted_sizes r → (n : ℕ) → n < entry_count → entry_given r n ≡ true → get_or wanted n 0 ≡ length_given r n + 1
wanted-there r wanted e n h on = wanted-at r wanted e n h ∙ sym (wanted-on r n on (length_given r n) refl)

pub wanted-count : (r wanted : List ℕ) → wanted ≡ wanted_sizes r → length wanted ≡ entry_count
unfolding wanted_sizes
wanted-count r wanted e = ap length e ∙ length-tabulate (wanted_given r) 0 entry_count

-- ---- its bytes

pub bytes-length : (r s : List ℕ) (n : ℕ) → Readable r s → n < entry_count → entry_given r n ≡ true → length (bytes_given r s n) ≡ length_given r n
unfolding bytes_given
bytes-length r s n sound h on = part_length s (start_given r n) (length_given r n) (sound.lies n h on)

-- entry n wants w
pub record Lies (r s : List ℕ) (n w : ℕ) : Type 0 where
  pub given : entry_given r n ≡ true
  pub is : entries_given r s n ≡ Some (bytes_given r s n)
  pub fits : start_given r n + (w - 1) ≤ length s
  pub length-is : length (bytes_given r s n) ≡ w - 1
  pub small : w ≤ 256

pub lies_at : (r s : List ℕ) (n : ℕ) → Readable r s → n < entry_count → (w : ℕ) → w ≡ wanted_given r n → 0 < w → Lies r s n w
lies_at r s n sound h w e pos =
    let on = wanted-given r n (omega arith) in
    let long = wanted-on r n on (length_given r n) refl in
    record {
      given = on;
      is = entry-some r s n on;
      fits = omega (arith, sound.lies n h on);
      length-is = omega (arith, bytes-length r s n sound h on);
      small = omega (arith, sound.short n h on);
    }

-- its bytes, from where they start and as many as it wants, without the zero behind them
pub bytes-part : (r s : List ℕ) (n : ℕ) → Readable r s → n < entry_count → (w start : ℕ) → w ≡ wanted_given r n → 0 < w → start ≡ start_given r n
    → part s start (w - 1) ≡ bytes_given r s n
unfolding bytes_given
bytes-part r s n sound h w start e pos at =
    let on = wanted-given r n (omega arith) in
    let long : w - 1 ≡ length_given r n = omega (arith, wanted-on r n on (length_given r n) refl) in
    ap₂ (λ (a m : ℕ). part s a m) at long
