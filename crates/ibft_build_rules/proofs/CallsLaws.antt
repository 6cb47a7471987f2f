-- The reading calls give of an accepted table what its record holds: the laws of readings, put together call by call.
--     nics-held          the record has as many extra NICs as the table
--     host-numbered, target-numbered     each string of a structure has a number, but for extra NICs that are not in use
--     accepted-calls     of an accepted table and its own record
--     serves-calls       so of any table that serves a record
-- Assumes nothing.
use Rattle.std.specs.Prelude.{Some}
use mathlib.Core.Path.{◌≡◌, refl, sym, ap, ◌∙◌, subst}
use mathlib.Core.Logic.{◌⊎◌, inl, inr}
use mathlib.Core.Bool.{Bool, true, false, cond, not}
use mathlib.Core.List.{List}
use Prim.Native.Nat.{ℕ, ◌+◌, ◌*◌, ◌≤◌, ◌<◌}
use native.Mathlib.Decide.{dec_lt}
use native.Mathlib.Omega.{arith}
use lib.ListN.{length}
use lib.Dec.{eqb, ltb, leb}
use borrow.Author.Tests.{lt-ltb, le-ltb, ltb-true, leb-true, eqb-true}
use Rattle.octets.specs.Counting.{any, sum_to}
use Rattle.octets.proofs.CountingLaws.{each_holds}
use Rattle.octets.proofs.CountLaws.{count_same}
use Rattle.ibft_layout.specs.Layout.{Kind, initiator, nic, target, slot_count, entry_count, named_count, extra_most, extra_nics, kind_of, nic_slot}
use Rattle.ibft_layout.specs.Layout.{target_slot, string_of, named_entries, first_entry, closed, entry_number}
use Rattle.table_header.specs.Verdict.{refusal_of, Verdict, Accepted}
use Rattle.ibft_table.specs.Table.{starts_of, nics_in, present}
use Rattle.ibft_table.specs.Check.{check_of}
use Rattle.ibft_table.specs.Record.{Record, shown_if, record_of}
use Rattle.ibft_layout.specs.Shapes.{string_words_at}
use Rattle.ibft_readings.specs.Readings.{initiator_in, nic_in, target_in, slot_called, entry_called, structure_from, structure_got, structure_of}
use Rattle.ibft_readings.specs.Readings.{initiator_of, nic_of, target_of, entry_from, entry_got, entry_of, view_of}
use Rattle.ibft_readings.specs.declared.structure.StructureReading.{StructureReading}
use Rattle.ibft_readings.specs.Computing.{computing}
use Rattle.ibft_layout.proofs.LayoutLaws.{nic-past, target_past}
use Rattle.ibft_table_laws.proofs.LayoutLaws.{slot-entry, slot-entry-owner, slot-entry-place}
use Rattle.ibft_table_laws.proofs.TableLaws.{facts, entry-owner-on}
use Rattle.ibft_table_laws.proofs.NumberingLaws.{closed-le, opened-closed, nics-most, slot-called, entry-called}
use Rattle.ibft_table_laws.proofs.ReadingLaws.{initiator-kind, nic-kind, target-kind, structure-is, structure-on, structure-below, entry-on}
use Rattle.ibft_table_laws.proofs.ReadingLaws.{verdict_at, structure_at, header-gives, structure-absent, structure-there, structure-gives}
use Rattle.ibft_table_laws.proofs.ReadingLaws.{structure-fields, initiator-held, nic-held, nic-index, target-held, target-index}
use Rattle.ibft_table_laws.proofs.ReadingLaws.{entry_absent, entry-there, entry-held, entry-size, entry-words}
use Rattle.ibft_build_rules.specs.Plan.{is_present}
use Rattle.ibft_build_rules.specs.Promises.{Serves}
use Rattle.ibft_build_rules.specs.ReadsBack.{structure_held, entry_held, nics_held, string_number, Gives, words_read, ReadsBack}

-- what is shown only where it is there is present exactly there
shown-present : (b : Bool) (x : List ℕ) → is_present (shown_if b x) ≡ b
unfolding is_present
shown-present true x = refl
shown-present false x = refl

-- ---- entries that have a number: all but those of extra NICs that are not in use

abbrev HasNumber : ℕ → ℕ → Type 0
HasNumber nics n = (n < named_entries + nics) ⊎ (named_entries + extra_most ≤ n)

-- a NIC's entry and a target's, by computation over all NICs and all targets: those of named slots are named, those of extra
-- NICs follow the slots, those of extra targets come behind
host_fits : ℕ → Bool
host_fits n =
    cond (ltb (nic_slot n) named_count) (ltb (first_entry (nic_slot n)) named_entries) (eqb (first_entry (nic_slot n) + extra_nics) (nic_slot n + named_entries))

hosts-fit : any 8 (λ (n : ℕ). not (host_fits n)) ≡ false
unfolding computing host_fits
hosts-fit = refl

target_fits : ℕ → Bool
target_fits n =
    cond (ltb (target_slot n) named_count) (ltb (first_entry (target_slot n) + 4) named_entries) (leb (named_entries + extra_most) (first_entry (target_slot n)))

targets-fit : any 8 (λ (n : ℕ). not (target_fits n)) ≡ false
unfolding computing target_fits
targets-fit = refl

module _ (nics n : ℕ) where
  host-numbered : n < 8 → nic_slot n < extra_nics + nics → HasNumber nics (first_entry (nic_slot n))
  unfolding host_fits
  host-numbered most h =
      let fits = each_holds 8 host_fits hosts-fit n most in
      elim (dec_lt (nic_slot n) named_count) [
        | yes l ↦ inl (omega (arith, ltb-true (first_entry (nic_slot n)) named_entries (rw (lt-ltb (nic_slot n) named_count l) at fits)))
        | no l ↦
            let follows : first_entry (nic_slot n) + extra_nics ≡ nic_slot n + named_entries =
            eqb-true (first_entry (nic_slot n) + extra_nics) (nic_slot n + named_entries) (rw (le-ltb (nic_slot n) named_count (omega arith)) at fits) in
            inl (omega arith)
      ]

  target-numbered : (j : ℕ) → n < 8 → j < 5 → HasNumber nics (first_entry (target_slot n) + j)
  unfolding target_fits
  target-numbered j most h =
      let fits = each_holds 8 target_fits targets-fit n most in
      elim (dec_lt (target_slot n) named_count) [
        | yes l ↦ inl (omega (arith, ltb-true (first_entry (target_slot n) + 4) named_entries (rw (lt-ltb (target_slot n) named_count l) at fits)))
        | no l ↦ inr (omega (
          arith,
          leb-true (named_entries + extra_most) (first_entry (target_slot n))
              (rw (le-ltb (target_slot n) named_count (omega arith)) at fits),
        ))
      ]

-- NICs and targets are below 8
nic-most : (n : ℕ) → nic_slot n < slot_count → n < 8
nic-most n h =
    elim (dec_lt n 8) [
      | yes l ↦ l
      | no l ↦ absurd (omega (arith, nic-past n (omega arith)))
    ]

target-most : (n : ℕ) → target_slot n < slot_count → n < 8
target-most n h =
    elim (dec_lt n 8) [
      | yes l ↦ l
      | no l ↦ absurd (omega (arith, target_past n (omega arith)))
    ]

module _ (t : List ℕ) (ok : check_of t ≡ Accepted) where
  -- ---- callers' numbers

  pub nics-held : nics_held (record_of t) ≡ nics_in (starts_of t)
  unfolding nics_held nics_in
  nics-held =
      count_same extra_most (λ (i : ℕ). is_present (structure_held (record_of t) (extra_nics + i))) (λ (i : ℕ). present t (extra_nics + i))
      (λ i l. ap is_present (structure-is t (extra_nics + i)) ∙ shown-present (present t (extra_nics + i)) _)

  -- ---- structures, by their slot and by number

  module _ {R : Type 0} (k : ℕ) (h : k < slot_count) (from : List ℕ → R) (shows : R) where
    slot-given : ((body : List ℕ) → structure_held (record_of t) k ≡ Some body → shows ≡ from body)
        → Gives (structure_held (record_of t) k) from (refusal_of (verdict_at t k)) shows
    unfolding refusal_of
    slot-given same = record {
      absent = λ e. ap refusal_of (structure-absent t ok k k h e);
      present = λ body e. ap refusal_of (structure-there t ok k k h body e);
      same = same;
    }

  module _ {R : Type 0} (number : ℕ) (h : number < slot_count) (from : List ℕ → R) (shows : R) where
    structure-given : ((body : List ℕ) → structure_held (record_of t) (slot_called (starts_of t) number) ≡ Some body → shows ≡ from body)
        → Gives (structure_held (record_of t) (slot_called (starts_of t) number)) from (structure_of t number).refusal shows
    unfolding structure_of structure_got structure_from
    structure-given same =
        let k : ℕ = slot_called (starts_of t) number in
        record {
          absent = λ e. ap (λ (v : Verdict). (structure_from (starts_of t) t k v).refusal) (structure-absent t ok number k h e);
          present = λ body e. ap (λ (r : StructureReading). r.refusal) (structure-gives t ok number k h body e refl);
          same = same;
        }

  -- ---- entries, by number

  entry-given : (number : ℕ) → number < entry_count
      → Gives (entry_held (record_of t) (entry_called (starts_of t) number)) (λ (bytes : List ℕ). bytes) (entry_of t number).refusal (view_of t number)
  unfolding entry_of entry_got entry_from refusal_of
  entry-given number h =
      let n : ℕ = entry_called (starts_of t) number in
      record {
        absent = λ e. ap (λ (v : Verdict). (entry_from (starts_of t) t n v).refusal) (entry_absent t ok number n h e);
        present = λ bytes e. ap (λ (v : Verdict). (entry_from (starts_of t) t n v).refusal) (entry-there t ok number n h bytes e);
        same = λ bytes e. entry-held t ok number n h bytes e refl;
      }

  -- ---- string j of slot k, whose entry has a number

  string-place : (k j : ℕ) (kind : Kind) → k < slot_count → kind_of k ≡ kind → j < length kind.string_fields
      → HasNumber (nics_in (starts_of t)) (first_entry k + j)
      → string_words_at (structure_at t k) (kind.strings_at + 4 * j) ≡ words_read (entry_of t (string_number (record_of t) k j))
  string-place k j kind h is l numbered =
      let l' : j < length (kind_of k).string_fields = rw is l in
      let n : ℕ = first_entry k + j in
      let below = slot-entry k j h l' in
      let called : entry_called (starts_of t) (string_number (record_of t) k j) ≡ n =
      ap (λ (a : ℕ). entry_called (starts_of t) (entry_number a n)) nics-held
      ∙ opened-closed named_entries (nics_in (starts_of t)) (nics-most t (facts t ok)) n numbered in
      ap (λ (κ : Kind). string_words_at (structure_at t k) (κ.strings_at + 4 * j)) (sym is)
      ∙ ap (string_words_at (structure_at t k)) (sym (slot-entry-place k j h l'))
      ∙ ap (λ (o : ℕ). string_words_at (structure_at t o) (string_of n).at) (sym (slot-entry-owner k j h l'))
      ∙ entry-words t ok (string_number (record_of t) k j) n (omega (arith, closed-le named_entries (nics_held (record_of t)) n)) below called

  first-string : (k : ℕ) (kind : Kind) → k < slot_count → kind_of k ≡ kind → 0 < length kind.string_fields → HasNumber (nics_in (starts_of t)) (first_entry k)
      → string_words_at (structure_at t k) kind.strings_at ≡ words_read (entry_of t (string_number (record_of t) k 0))
  first-string k kind h is l numbered =
      let same : first_entry k + 0 ≡ first_entry k = omega arith in
      ap (string_words_at (structure_at t k)) (omega arith) ∙ string-place k 0 kind h is l (rw same numbered)

  target-string : (n j : ℕ) → target_slot n < slot_count → j < 5
      → string_words_at (structure_at t (target_slot n)) (target.strings_at + 4 * j) ≡ words_read (entry_of t (string_number (record_of t) (target_slot n) j))
  target-string n j h l = string-place (target_slot n) j target h (target-kind n h) l (target-numbered (nics_in (starts_of t)) n j (target-most n h) l)

  -- ---- all calls

  pub accepted-calls : ReadsBack (record_of t) t
  unfolding initiator_of nic_of target_of initiator_in nic_in target_in first_entry sum_to closed
  accepted-calls = record {
    header = header-gives t ok;
    flags = λ number h.
        rw nics-held (structure-given number h _ _ (λ body e. ap (λ (r : StructureReading). r.flags) (structure-gives t ok number _ h body e refl)));
    kind = λ number body h. rw nics-held (λ e. ap (λ (r : StructureReading). r.id) (structure-gives t ok number _ h body e refl));
    index = λ number body h. rw nics-held (λ e. ap (λ (r : StructureReading). r.index) (structure-gives t ok number _ h body e refl));
    fields = λ number h. rw nics-held (structure-given number h _ _ (λ body e. structure-fields t ok number _ h body e refl));
    slot-called = λ k body e. rw nics-held (slot-called t (facts t ok) k (structure-on t ok k body e));
    entry-called = λ n bytes e. rw nics-held (entry-called t (facts t ok) n (entry-owner-on t n (entry-on t ok n bytes e)));
    initiator = slot-given 0 (omega arith) _ _ (initiator-held t ok);
    nic = λ n h. slot-given (nic_slot n) h _ _ (λ body e. nic-held t ok n body h e);
    nic-index = λ n body e. nic-index t ok n body (structure-below t ok _ body e) e;
    target = λ n h. slot-given (target_slot n) h _ _ (λ body e. target-held t ok n body h e);
    target-index = λ n body e. target-index t ok n body (structure-below t ok _ body e) e;
    entry = λ number h. rw nics-held (entry-given number h);
    entry_length = λ number bytes h. rw nics-held (λ e. entry-size t ok number _ h bytes e refl);
    initiator-name = first-string 0 initiator (omega arith) initiator-kind (omega arith) (inl (omega arith));
    host = λ n h.
        let low : nic_slot n < extra_nics + nics_in (starts_of t) = rw nics-held at h in
        let below : nic_slot n < slot_count = omega (arith, nics-most t (facts t ok)) in
        first-string (nic_slot n) nic below (nic-kind n below) (omega arith) (host-numbered (nics_in (starts_of t)) n (nic-most n below) low);
    target_name = λ n h. ap (string_words_at (structure_at t (target_slot n))) (omega arith) ∙ target-string n 0 h (omega arith);
    chap-name = λ n h. target-string n 1 h (omega arith);
    chap-secret = λ n h. target-string n 2 h (omega arith);
    reverse-name = λ n h. target-string n 3 h (omega arith);
    reverse-secret = λ n h. target-string n 4 h (omega arith);
  }

pub serves-calls : (c : Record) (t : List ℕ) → Serves c t → ReadsBack c t
serves-calls c t w = subst (λ (r : Record). ReadsBack r t) w.reads-back (accepted-calls t w.passes)
