-- The readings of an accepted table give the parts of its record: each present structure's flags and fields, each present
-- entry's bytes; 22 where the record has none, 23 past the last. NICs and Targets are read by their slot; structures and
-- entries by the callers' numbers, which `NumberingLaws` leads back.
--     structure-is, entry-is                                             what the record holds, at every number
--     slot-verdict, slot-missing, slot-unknown, entry-verdict, ..        what a reading answers
--     header-gives                                                       the OEM fields and Control's flags
--     initiator-gives, nic-gives, target-gives                           a structure: its fields laid out are the record's
--     initiator-fields-same, nic-.., target-..                           equal records have equal flags and fields, whatever
--                                                                        the bytes
--     entry_gives, entry-text, entry_place                               an entry: its view, the words that its structure
--                                                                        shows, its place
--     structure-absent, structure-there                                  by what the record holds of a slot: what a reading
--                                                                        answers
--     structure-gives, structure-fields, initiator-held, nic-index, ..   and shows
--     entry_absent, entry-there, entry-held, entry-size, entry-words     the same of an entry
-- Assumes nothing.
use Rattle.std.specs.Prelude.{None, Some}
use mathlib.Core.Path.{◌≡◌, refl, sym, ap, ap₂, ◌∙◌}
use mathlib.Core.Bool.{Bool, true, false, not}
use mathlib.Core.List.{List, []}
use Prim.Native.Nat.{ℕ, zero, suc, ◌+◌, ◌*◌, ◌≤◌, ◌<◌}
use native.Mathlib.Decide.{dec_lt}
use native.Mathlib.Omega.{arith}
use borrow.Author.Tests.{le-leb, lt-leb}
use lib.ListN.{length, get_or, drop, length-drop}
use lib.Seq.{get_or-drop}
use Rattle.octets.specs.Octets.{byte, word16, part, differs}
use Rattle.octets.proofs.ReadLaws.{bytes-part, part-from, part_at}
use Rattle.octets.proofs.TestLaws.{and-other, or-both, differs-no}
use Rattle.ibft_layout.specs.Layout.{Kind, initiator, nic, target, slot_count, entry_count, kind_of, owner_of, string_of, nic_slot, target_slot}
use Rattle.table_header.specs.Verdict.{refusal, accepted, first_of, refusal_of, shown, Verdict, Accepted, Refused}
use Rattle.ibft_table.specs.Table.{starts_of, index_in, field_in, size_in, offset_in, holds_in, start_of, present, size_of, offset_of, holds_entry}
use Rattle.ibft_table.specs.Check.{check_tests, check_of}
use Rattle.ibft_table.specs.Record.{Record, shown_if, body_size, listed, content_in, content_of, record_of}
use Rattle.ibft_layout.specs.Shapes.{string_words_at}
use Rattle.ibft_readings.specs.Readings.{header_in, initiator_in, nic_in, target_in, header_of, slot_called, entry_called, slot_verdict}
use Rattle.ibft_readings.specs.Readings.{structure_in, index_shown, structure_from, structure_got, structure_of, structure_view_got}
use Rattle.ibft_readings.specs.Readings.{structure_view_of, initiator_of, nic_of, target_of, entry_verdict, entry_from, entry_got, entry_of, view_got}
use Rattle.ibft_readings.specs.Readings.{view_of}
use Rattle.ibft_layout.specs.declared.string_words.StringWords.{StringWords}
use Rattle.ibft_readings.specs.declared.entry.EntryReading.{EntryReading}
use Rattle.ibft_table_laws.specs.Bodies.{initiator_fields, nic_fields, target_fields, initiator_body, nic_body, target_body, initiator_from, nic_from, target_from}
use Rattle.table_header.proofs.VerdictLaws.{accept-cons, accept-none, pass-cons, fail-cons, append-accepted}
use Rattle.ibft_table_laws.proofs.LayoutLaws.{slot-fits, entry-fits}
use Rattle.ibft_table_laws.proofs.TableLaws.{present-past, present-below, holds-past, holds-below, length-least, length-le}
use Rattle.ibft_table_laws.proofs.TableLaws.{slot-end-le, entry-owner-on, entry_length}
use Rattle.ibft_table_laws.proofs.RecordLaws.{shown-some, shown-none, structure-listed, index_listed, entry_listed, structure-past}
use Rattle.ibft_table_laws.proofs.RecordLaws.{entry_past, table-presence-same}
use Rattle.ibft_table_laws.proofs.BodyLaws.{initiator-laid, initiator-read, nic-laid, nic-read, target-laid, target-read}

-- ---- the kinds of the slots by name

pub initiator-kind : kind_of 0 ≡ initiator
unfolding kind_of
initiator-kind = refl

pub nic-kind : (n : ℕ) → nic_slot n < slot_count → kind_of (nic_slot n) ≡ nic
unfolding kind_of nic_slot
nic-kind zero h = refl
nic-kind (suc zero) h = refl
nic-kind (suc (suc zero)) h = refl
nic-kind (suc (suc (suc zero))) h = refl
nic-kind (suc (suc (suc (suc zero)))) h = refl
nic-kind (suc (suc (suc (suc (suc zero))))) h = refl
nic-kind (suc (suc (suc (suc (suc (suc zero)))))) h = refl
nic-kind (suc (suc (suc (suc (suc (suc (suc zero))))))) h = refl
nic-kind (suc (suc (suc (suc (suc (suc (suc (suc n)))))))) h = absurd (omega arith)

pub target-kind : (n : ℕ) → target_slot n < slot_count → kind_of (target_slot n) ≡ target
unfolding kind_of target_slot
target-kind zero h = refl
target-kind (suc zero) h = refl
target-kind (suc (suc zero)) h = refl
target-kind (suc (suc (suc zero))) h = refl
target-kind (suc (suc (suc (suc zero)))) h = refl
target-kind (suc (suc (suc (suc (suc zero))))) h = refl
target-kind (suc (suc (suc (suc (suc (suc zero)))))) h = refl
target-kind (suc (suc (suc (suc (suc (suc (suc zero))))))) h = refl
target-kind (suc (suc (suc (suc (suc (suc (suc (suc n)))))))) h = absurd (omega arith)

-- ---- what a table's record holds, at every number: past the last slot and entry nothing, as nothing is present there

module _ (t : List ℕ) where
  pub structure-is : (k : ℕ) → get_or (record_of t).structures k None ≡ shown_if (present t k) (part t (start_of t k + 5) (body_size (kind_of k)))
  unfolding record_of content_of content_in
  structure-is k =
      elim (dec_lt k slot_count) [
        | yes l ↦ structure-listed (content_of t) k l
        | no l ↦
            structure-past (content_of t) k (omega arith)
            ∙ sym (ap (λ (b : Bool). shown_if b (part t (start_of t k + 5) (body_size (kind_of k)))) (present-past t k (omega arith)))
      ]

  pub entry-is : (n : ℕ) → get_or (record_of t).entries n None ≡ shown_if (holds_entry t n) (part t (offset_of t n) (size_of t n))
  unfolding record_of content_of content_in
  entry-is n =
      elim (dec_lt n entry_count) [
        | yes l ↦ entry_listed (content_of t) n l
        | no l ↦
            entry_past (content_of t) n (omega arith)
            ∙ sym (ap (λ (b : Bool). shown_if b (part t (offset_of t n) (size_of t n))) (holds-past t n (omega arith)))
      ]

-- ---- what is read of slot k by itself, as NICs and Targets are

abbrev pub verdict_at : List ℕ → ℕ → Verdict
verdict_at t k = slot_verdict (starts_of t) t k k

abbrev pub structure_at : List ℕ → ℕ → List ℕ
structure_at t k = structure_in (starts_of t) t (verdict_at t k) k

-- ---- verdicts: of slot k and entry n, asked for by a number

module _ (t : List ℕ) (ok : check_of t ≡ Accepted) where
  tests-pass : first_of (check_tests t) ≡ Accepted
  unfolding check_of
  tests-pass = ok

  module _ (number k : ℕ) where
    pub slot-verdict : number < slot_count → present t k ≡ true → slot_verdict (starts_of t) t number k ≡ Accepted
    unfolding slot_verdict
    slot-verdict h on =
        append-accepted (check_tests t) _ tests-pass ∙ accept-cons _ _ (lt-leb slot_count number h) (accept-cons _ _ (ap not on) accept-none)

    pub slot-missing : number < slot_count → present t k ≡ false → slot_verdict (starts_of t) t number k ≡ Refused (refusal 22 0)
    unfolding slot_verdict
    slot-missing h off = append-accepted (check_tests t) _ tests-pass ∙ pass-cons _ _ (lt-leb slot_count number h) ∙ fail-cons _ _ (ap not off)

    pub slot-unknown : slot_count ≤ number → slot_verdict (starts_of t) t number k ≡ Refused (refusal 23 0)
    unfolding slot_verdict
    slot-unknown h = append-accepted (check_tests t) _ tests-pass ∙ fail-cons _ _ (le-leb slot_count number h)

    pub entry-verdict : number < entry_count → holds_entry t k ≡ true → entry_verdict (starts_of t) t number k ≡ Accepted
    unfolding entry_verdict
    entry-verdict h on =
        append-accepted (check_tests t) _ tests-pass ∙ accept-cons _ _ (lt-leb entry_count number h) (accept-cons _ _ (ap not on) accept-none)

    pub entry-missing : number < entry_count → holds_entry t k ≡ false → entry_verdict (starts_of t) t number k ≡ Refused (refusal 22 0)
    unfolding entry_verdict
    entry-missing h off = append-accepted (check_tests t) _ tests-pass ∙ pass-cons _ _ (lt-leb entry_count number h) ∙ fail-cons _ _ (ap not off)

    pub entry-unknown : entry_count ≤ number → entry_verdict (starts_of t) t number k ≡ Refused (refusal 23 0)
    unfolding entry_verdict
    entry-unknown h = append-accepted (check_tests t) _ tests-pass ∙ fail-cons _ _ (le-leb entry_count number h)

  -- ---- the header

  pub header-gives : header_of t ≡ record {
    refusal = accepted;
    header = record { oem_id = (record_of t).oem_id; oem_table_id = (record_of t).oem_table_id; flags = (record_of t).flags };
  }
  unfolding header_of header_in record_of listed content_of content_in shown refusal_of
  header-gives =
      let id = bytes-part t 10 6 (omega (arith, length-least t ok, length-le t ok)) in
      let table-id = bytes-part t 16 8 (omega (arith, length-least t ok, length-le t ok)) in
      rw (ok, id, table-id)

  -- ---- structures

  module _ (k : ℕ) (h : k < slot_count) (on : present t k ≡ true) where
    structure-shown : structure_at t k ≡ drop (start_of t k) t
    unfolding structure_in shown
    structure-shown = ap (λ (v : Verdict). shown v (drop (start_of t k) t)) (slot-verdict k k h on)

    -- the record's flags and fields are bytes 5 up to the first string word of what is shown
    pub structure-body : get_or (record_of t).structures k None ≡ Some (part (structure_at t k) 5 (body_size (kind_of k)))
    structure-body =
        structure-is t k
        ∙ ap (λ (b : Bool). shown_if b (part t (start_of t k + 5) (body_size (kind_of k)))) on
        ∙ ap Some (sym (ap (λ (l : List ℕ). part l 5 (body_size (kind_of k))) structure-shown ∙ part-from t (start_of t k) 5 (body_size (kind_of k))))

    structure-long : (kind_of k).strings_at ≤ length (structure_at t k)
    structure-long =
        omega (
          arith,
          ap length structure-shown,
          length-drop (start_of t k) t,
          slot-end-le t ok k h on,
          length-le t ok,
          (slot-fits k h).words,
        )

    structure-lt : ((i : ℕ) → byte t i < 256) → (i : ℕ) → byte (structure_at t k) i < 256
    structure-lt bytes i =
        omega (arith, ap (λ (l : List ℕ). byte l i) structure-shown, get_or-drop (start_of t k) t i 0, bytes (start_of t k + i))

  pub structure-none : (k : ℕ) → k < slot_count → present t k ≡ false → get_or (record_of t).structures k None ≡ None
  structure-none k h off =
      structure-is t k ∙ ap (λ (b : Bool). shown_if b (part t (start_of t k + 5) (body_size (kind_of k)))) off

  structure-hidden : (k : ℕ) → k < slot_count → present t k ≡ false → structure_at t k ≡ []
  unfolding structure_in shown
  structure-hidden k h off = ap (λ (v : Verdict). shown v (drop (start_of t k) t)) (slot-missing k k h off)

  -- Laid out again, the fields of a structure's reading are the record's. `lays` says so of the kind's own reading.
  gives : {R : Type 0} (k : ℕ) (kind : Kind) (read : List ℕ → R) (body : R → List ℕ) → kind_of k ≡ kind
      → ((p : List ℕ) → kind.strings_at ≤ length p → ((i : ℕ) → byte p i < 256) → body (read p) ≡ part p 5 (body_size kind))
      → ((i : ℕ) → byte t i < 256) → k < slot_count → present t k ≡ true → get_or (record_of t).structures k None ≡ Some (body (read (structure_at t k)))
  gives k kind read body is lays bytes h on =
      structure-body k h on
      ∙ ap (λ (κ : Kind). Some (part (structure_at t k) 5 (body_size κ))) is
      ∙ ap Some (sym (lays (structure_at t k) (rw is at (structure-long k h on)) (structure-lt k h on bytes)))

  pub initiator-gives : ((i : ℕ) → byte t i < 256) → present t 0 ≡ true
      → get_or (record_of t).structures 0 None ≡ Some (initiator_body (initiator_of t).fields)
  unfolding initiator_of
  initiator-gives bytes on = gives 0 initiator initiator_in initiator_body initiator-kind (λ p long b. initiator-laid p long) bytes (omega arith) on

  module _ (n : ℕ) (bytes : (i : ℕ) → byte t i < 256) where
    pub nic-gives : nic_slot n < slot_count → present t (nic_slot n) ≡ true
        → get_or (record_of t).structures (nic_slot n) None ≡ Some (nic_body (nic_of t n).fields)
    unfolding nic_of
    nic-gives h on = gives (nic_slot n) nic nic_in nic_body (nic-kind n h) nic-laid bytes h on

    pub target-gives : target_slot n < slot_count → present t (target_slot n) ≡ true
        → get_or (record_of t).structures (target_slot n) None ≡ Some (target_body (target_of t n).fields)
    unfolding target_of
    target-gives h on = gives (target_slot n) target target_in target_body (target-kind n h) target-laid bytes h on

  -- ---- entries

  module _ (n : ℕ) (h : n < entry_count) where
    pub entry-none : holds_entry t n ≡ false → get_or (record_of t).entries n None ≡ None
    entry-none off = entry-is t n ∙ ap (λ (b : Bool). shown_if b (part t (offset_of t n) (size_of t n))) off

    module _ (on : holds_entry t n ≡ true) (number : ℕ) (l : number < entry_count) (is : entry_called (starts_of t) number ≡ n) where
      -- its view is the record's entry
      pub entry_gives : get_or (record_of t).entries n None ≡ Some (view_of t number)
      unfolding view_of view_got shown
      entry_gives =
          entry-is t n
          ∙ ap (λ (b : Bool). shown_if b (part t (offset_of t n) (size_of t n))) on
          ∙ ap Some
          (sym
          (ap (λ (j : ℕ). shown (entry_verdict (starts_of t) t number j) (part t (offset_of t j) (size_of t j))) is
          ∙ ap (λ (v : Verdict). shown v (part t (offset_of t n) (size_of t n))) (entry-verdict number n l on)))

      -- its place: where the view stands, and how long it is
      pub entry_place : entry_of t number ≡ record { refusal = accepted; offset = offset_of t n; length = size_of t n }
      unfolding entry_of entry_got entry_from refusal_of
      entry_place =
          ap (λ (j : ℕ). entry_from (starts_of t) t j (entry_verdict (starts_of t) t number j)) is
          ∙ ap (entry_from (starts_of t) t n) (entry-verdict number n l on)

    -- the two words that its structure's reading shows of it
    pub entry-text : present t (owner_of n) ≡ true
        → string_words_at (structure_at t (owner_of n)) (string_of n).at ≡ record { length = size_of t n; offset = offset_of t n }
    unfolding size_in offset_in field_in
    entry-text on =
        let owner = (entry-fits n h).owner in
        let s = start_of t (owner_of n) in
        let at = (string_of n).at in
        let word : (i : ℕ) → word16 (structure_at t (owner_of n)) i ≡ word16 t (s + i) =
        λ i. ap (λ (l : List ℕ). word16 l i) (structure-shown (owner_of n) owner on)
        ∙ ap₂ (λ (a b : ℕ). a + 256 * b) (get_or-drop s t i 0) (get_or-drop s t (i + 1) 0 ∙ ap (byte t) (omega arith)) in
        ap₂ (λ (l o : ℕ). record { length = l; offset = o }) (word at) (word (at + 2) ∙ ap (word16 t) (omega arith))

-- ---- readings by what the record holds

module _ (t : List ℕ) (ok : check_of t ≡ Accepted) where
  -- slot k's structure
  module _ (k : ℕ) (body : List ℕ) (holds : get_or (record_of t).structures k None ≡ Some body) where
    held-body : (present t k ≡ true) × (part t (start_of t k + 5) (body_size (kind_of k)) ≡ body)
    held-body = shown-some (present t k) _ body (sym (structure-is t k) ∙ holds)

    pub structure-on : present t k ≡ true
    structure-on = held-body.0

    pub structure-below : k < slot_count
    structure-below = present-below t k structure-on

    pub structure-flags : byte t (start_of t k + 5) ≡ byte body 0
    structure-flags =
        let flags = (slot-fits k structure-below).flags in
        ap (byte t) (omega arith)
        ∙ sym (part_at t (start_of t k + 5) (body_size (kind_of k)) 0 (omega arith))
        ∙ ap (λ (l : List ℕ). byte l 0) held-body.1

    pub structure-index : index_in (starts_of t) t k ≡ get_or (record_of t).indices k 0
    unfolding record_of content_of content_in
    structure-index = sym (index_listed (content_of t) k structure-below)

  -- and what is answered and shown of it where it is asked for by a number
  module _ (number k : ℕ) (l : number < slot_count) where
    pub structure-absent : get_or (record_of t).structures k None ≡ None → slot_verdict (starts_of t) t number k ≡ Refused (refusal 22 0)
    structure-absent e = slot-missing t ok number k l (shown-none (present t k) _ (sym (structure-is t k) ∙ e))

    module _ (body : List ℕ) (holds : get_or (record_of t).structures k None ≡ Some body) where
      pub structure-there : slot_verdict (starts_of t) t number k ≡ Accepted
      structure-there = slot-verdict t ok number k l (structure-on k body holds)

      -- from its start on: the record's flags and fields from 5 on
      shown-fields : part (structure_in (starts_of t) t (slot_verdict (starts_of t) t number k) k) 5 (body_size (kind_of k)) ≡ body
      unfolding structure_in shown
      shown-fields =
          ap (λ (v : Verdict). part (shown v (drop (start_of t k) t)) 5 (body_size (kind_of k))) structure-there
          ∙ part-from t (start_of t k) 5 (body_size (kind_of k))
          ∙ (held-body k body holds).1

      module _ (is : slot_called (starts_of t) number ≡ k) where
        -- its kind and start, and the record's Index and flags
        pub structure-gives : structure_of t number ≡ record {
          refusal = accepted;
          id = (kind_of k).id;
          index = get_or (record_of t).indices k 0;
          start = start_of t k;
          flags = byte body 0;
        }
        unfolding structure_of structure_got structure_from refusal_of
        structure-gives =
            ap (λ (j : ℕ). structure_from (starts_of t) t j (slot_verdict (starts_of t) t number j)) is
            ∙ ap (structure_from (starts_of t) t k) structure-there
            ∙ ap₂ (λ (x f : ℕ). record { refusal = accepted; id = (kind_of k).id; index = x; start = start_of t k; flags = f })
            (structure-index k body holds)
            (structure-flags k body holds)

        -- the part of the table that starts with it has the record's flags and fields from 5 on
        pub structure-fields : part (structure_view_of t number) 5 (body_size (kind_of k)) ≡ body
        unfolding structure_view_of structure_view_got
        structure-fields =
            ap (λ (j : ℕ). part (structure_in (starts_of t) t (slot_verdict (starts_of t) t number j) j) 5 (body_size (kind_of k))) is ∙ shown-fields

  -- what a kind's reading shows is what `from` reads of the flags and fields
  held : {R : Type 0} (k : ℕ) (h : k < slot_count) (body : List ℕ) → get_or (record_of t).structures k None ≡ Some body
      → (kind : Kind) (read : List ℕ → R) (from : List ℕ → R) → kind_of k ≡ kind
      → ((p : List ℕ) → kind.strings_at ≤ length p → from (part p 5 (body_size kind)) ≡ read p)
      → read (structure_at t k) ≡ from body
  held k h body holds kind read from is reads =
      sym (reads (structure_at t k) (rw is at (structure-long t ok k h (structure-on k body holds))))
      ∙ ap (λ (κ : Kind). from (part (structure_at t k) 5 (body_size κ))) (sym is)
      ∙ ap from (shown-fields k k h body holds)

  pub initiator-held : (body : List ℕ) → get_or (record_of t).structures 0 None ≡ Some body → initiator_fields (initiator_of t).fields ≡ initiator_from body
  unfolding initiator_of
  initiator-held body holds =
      held 0 (omega arith) body holds initiator (λ (p : List ℕ). initiator_fields (initiator_in p)) initiator_from initiator-kind initiator-read

  module _ (n : ℕ) (body : List ℕ) where
    pub nic-held : nic_slot n < slot_count → get_or (record_of t).structures (nic_slot n) None ≡ Some body → nic_fields (nic_of t n).fields ≡ nic_from body
    unfolding nic_of
    nic-held h holds = held (nic_slot n) h body holds nic (λ (p : List ℕ). nic_fields (nic_in p)) nic_from (nic-kind n h) nic-read

    pub target-held : target_slot n < slot_count → get_or (record_of t).structures (target_slot n) None ≡ Some body
        → target_fields (target_of t n).fields ≡ target_from body
    unfolding target_of
    target-held h holds = held (target_slot n) h body holds target (λ (p : List ℕ). target_fields (target_in p)) target_from (target-kind n h) target-read

  -- and its Index is the record's
  held-index : (k : ℕ) (h : k < slot_count) (body : List ℕ) → get_or (record_of t).structures k None ≡ Some body
      → index_shown (starts_of t) t (verdict_at t k) k ≡ get_or (record_of t).indices k 0
  unfolding index_shown
  held-index k h body holds =
      ap (λ (v : Verdict). index_shown (starts_of t) t v k) (structure-there k k h body holds) ∙ structure-index k body holds

  module _ (n : ℕ) (body : List ℕ) where
    pub nic-index : nic_slot n < slot_count → get_or (record_of t).structures (nic_slot n) None ≡ Some body
        → (nic_of t n).index ≡ get_or (record_of t).indices (nic_slot n) 0
    unfolding nic_of
    nic-index h holds = held-index (nic_slot n) h body holds

    pub target-index : target_slot n < slot_count → get_or (record_of t).structures (target_slot n) None ≡ Some body
        → (target_of t n).index ≡ get_or (record_of t).indices (target_slot n) 0
    unfolding target_of
    target-index h holds = held-index (target_slot n) h body holds

  -- an entry, asked for by a number
  held-entry : (n : ℕ) (bytes : List ℕ) → get_or (record_of t).entries n None ≡ Some bytes
      → (holds_entry t n ≡ true) × (part t (offset_of t n) (size_of t n) ≡ bytes)
  held-entry n bytes holds = shown-some (holds_entry t n) _ bytes (sym (entry-is t n) ∙ holds)

  pub entry-on : (n : ℕ) (bytes : List ℕ) → get_or (record_of t).entries n None ≡ Some bytes → holds_entry t n ≡ true
  entry-on n bytes holds = (held-entry n bytes holds).0

  module _ (number n : ℕ) (l : number < entry_count) where
    pub entry_absent : get_or (record_of t).entries n None ≡ None → entry_verdict (starts_of t) t number n ≡ Refused (refusal 22 0)
    entry_absent e = entry-missing t ok number n l (shown-none (holds_entry t n) _ (sym (entry-is t n) ∙ e))

    module _ (bytes : List ℕ) (holds : get_or (record_of t).entries n None ≡ Some bytes) where
      pub entry-there : entry_verdict (starts_of t) t number n ≡ Accepted
      entry-there = entry-verdict t ok number n l (entry-on n bytes holds)

      module _ (is : entry_called (starts_of t) number ≡ n) where
        pub entry-held : view_of t number ≡ bytes
        unfolding view_of view_got shown
        entry-held =
            ap (λ (j : ℕ). shown (entry_verdict (starts_of t) t number j) (part t (offset_of t j) (size_of t j))) is
            ∙ ap (λ (v : Verdict). shown v (part t (offset_of t n) (size_of t n))) entry-there
            ∙ (held-entry n bytes holds).1

        pub entry-size : (entry_of t number).length ≡ length bytes
        entry-size =
            let on = entry-on n bytes holds in
            let h = holds-below t n on in
            ap (λ (r : EntryReading). r.length) (entry_place t ok n h on number l is)
            ∙ sym (entry_length t ok n h on)
            ∙ ap length (held-entry n bytes holds).1

    -- the words that its owner's reading shows are where its own reading says that it stands, 0 and 0 where either is refused
    pub entry-words : n < entry_count → entry_called (starts_of t) number ≡ n
        → string_words_at (structure_at t (owner_of n)) (string_of n).at ≡ record { length = (entry_of t number).length; offset = (entry_of t number).offset }
    unfolding holds_in entry_of entry_got entry_from
    entry-words h is = go (present t (owner_of n)) (holds_entry t n) refl refl
      where
        place : EntryReading → StringWords
        place r = record { length = r.length; offset = r.offset }

        refused : holds_entry t n ≡ false → record { length = 0; offset = 0 } ≡ place (entry_of t number)
        refused off =
            sym
            (ap (λ (j : ℕ). place (entry_from (starts_of t) t j (entry_verdict (starts_of t) t number j))) is
            ∙ ap (λ (v : Verdict). place (entry_from (starts_of t) t n v)) (entry-missing t ok number n l off))

        go : (o b : Bool) → present t (owner_of n) ≡ o → holds_entry t n ≡ b
            → string_words_at (structure_at t (owner_of n)) (string_of n).at ≡ place (entry_of t number)
        go o true p q = entry-text t ok n h (entry-owner-on t n q) ∙ sym (ap place (entry_place t ok n h q number l is))
        go true false p q =
            let z = or-both (differs (size_of t n) 0) _ (and-other (present t (owner_of n)) _ q p) in
            entry-text t ok n h p
            ∙ ap₂ (λ (l o : ℕ). record { length = l; offset = o }) (differs-no (size_of t n) 0 z.0) (differs-no (offset_of t n) 0 z.1)
            ∙ refused q
        go false false p q =
            ap (λ (l : List ℕ). string_words_at l (string_of n).at) (structure-hidden t ok (owner_of n) (entry-fits n h).owner p) ∙ refused q

-- ---- equal records have equal readings

module _ (t u : List ℕ) (ok : check_of t ≡ Accepted) (ok' : check_of u ≡ Accepted) (e : record_of t ≡ record_of u) where
  fields-same : {R : Type 0} (k : ℕ) (kind : Kind) (read : List ℕ → R) (from : List ℕ → R) → kind_of k ≡ kind
      → ((p : List ℕ) → kind.strings_at ≤ length p → from (part p 5 (body_size kind)) ≡ read p) → k < slot_count
      → read (structure_at t k) ≡ read (structure_at u k)
  fields-same k kind read from is reads h = go (present t k) refl
    where
      body : present t k ≡ true → present u k ≡ true → part (structure_at t k) 5 (body_size kind) ≡ part (structure_at u k) 5 (body_size kind)
      body on on' =
          let a = structure-body t ok k h on in
          let b = structure-body u ok' k h on' in
          rw is at (only (sym a ∙ ap (λ (r : Record). get_or r.structures k None) e ∙ b))
        where
          only : {x y : List ℕ} → Some x ≡ Some y → x ≡ y
          only q = cc

      go : (b : Bool) → present t k ≡ b → read (structure_at t k) ≡ read (structure_at u k)
      go false off =
          let off' : present u k ≡ false = sym (table-presence-same t u e k h) ∙ off in
          ap read (structure-hidden t ok k h off ∙ sym (structure-hidden u ok' k h off'))
      go true on =
          let on' : present u k ≡ true = sym (table-presence-same t u e k h) ∙ on in
          sym (reads (structure_at t k) (rw is at (structure-long t ok k h on)))
          ∙ ap from (body on on')
          ∙ reads (structure_at u k) (rw is at (structure-long u ok' k h on'))

  pub initiator-fields-same : initiator_fields (initiator_of t).fields ≡ initiator_fields (initiator_of u).fields
  unfolding initiator_of
  initiator-fields-same =
      fields-same 0 initiator (λ (p : List ℕ). initiator_fields (initiator_in p)) initiator_from initiator-kind initiator-read (omega arith)

  pub nic-fields-same : (n : ℕ) → nic_slot n < slot_count → nic_fields (nic_of t n).fields ≡ nic_fields (nic_of u n).fields
  unfolding nic_of
  nic-fields-same n h = fields-same (nic_slot n) nic (λ (p : List ℕ). nic_fields (nic_in p)) nic_from (nic-kind n h) nic-read h

  pub target-fields-same : (n : ℕ) → target_slot n < slot_count → target_fields (target_of t n).fields ≡ target_fields (target_of u n).fields
  unfolding target_of
  target-fields-same n h = fields-same (target_slot n) target (λ (p : List ℕ). target_fields (target_in p)) target_from (target-kind n h) target-read h
