-- Whatever begins with the first Length bytes of an accepted table has the same readings, refused ones too.
--     begins-header, begins-structure, begins-initiator, begins-nic, begins-target, begins-entry, begins-view
-- Assumes nothing.
use mathlib.Core.Path.{◌≡◌, refl, sym, ap, ap₂, ◌∙◌}
use mathlib.Core.Bool.{Bool, true, false}
use mathlib.Core.List.{List}
use Prim.Native.Nat.{ℕ, ◌≤◌, ◌<◌}
use native.Mathlib.Decide.{dec_lt}
use native.Mathlib.Omega.{arith}
use lib.ListN.{length, drop, length-drop}
use Rattle.octets.specs.Octets.{part, bytes_past, bytes_at}
use Rattle.octets.proofs.ReadLaws.{bytes-part, part-from}
use Rattle.ibft_layout.specs.Layout.{Kind, initiator, nic, target, slot_count, entry_count, kind_of, nic_slot, target_slot, least_length}
use Rattle.table_header.specs.Verdict.{accepted, refusal_of, shown, Verdict, Accepted, Refused}
use Rattle.table_header.specs.Header.{length_of}
use Rattle.ibft_table.specs.Table.{starts_of, start_of, present, size_of, offset_of, holds_entry}
use Rattle.ibft_table.specs.Check.{check_of}
use Rattle.ibft_table.specs.Record.{Record}
use Rattle.ibft_readings.specs.Readings.{initiator_in, nic_in, target_in, header_of, slot_called, entry_called, slot_verdict, structure_in}
use Rattle.ibft_readings.specs.Readings.{index_shown, structure_from, structure_got, structure_of, initiator_of, nic_of, target_of, entry_verdict}
use Rattle.ibft_readings.specs.Readings.{entry_from, entry_got, entry_of, view_got, view_of}
use Rattle.table_header.specs.declared.verdict.Refusal.{Refusal}
use Rattle.ibft_layout.specs.declared.initiator.Initiator.{Initiator}
use Rattle.ibft_layout.specs.declared.nic.Nic.{Nic}
use Rattle.ibft_layout.specs.declared.target.Target.{Target}
use Rattle.ibft_table_laws.specs.Begins.{Begins}
use Rattle.ibft_table_laws.proofs.LayoutLaws.{slot-fits}
use Rattle.ibft_table_laws.proofs.TableLaws.{present-below, holds-past, holds-below, length-least, length-le, slot_kept, slot-end-le}
use Rattle.ibft_table_laws.proofs.TableLaws.{owner-inside, entry-owner-on}
use Rattle.ibft_table_laws.proofs.BeginsLaws.{start-same, present-same, structure-byte-same, structure-part-same, size_same, offset-same}
use Rattle.ibft_table_laws.proofs.BeginsVerdictLaws.{begins-accepted}
use Rattle.ibft_table_laws.proofs.BeginsRecordLaws.{begins-starts, begins-index, begins-holds, begins-entry-bytes, begins-record}
use Rattle.ibft_table_laws.proofs.ReadingLaws.{initiator-kind, nic-kind, target-kind, slot-verdict, slot-missing, slot-unknown}
use Rattle.ibft_table_laws.proofs.ReadingLaws.{entry-verdict, entry-missing, entry-unknown, header-gives}

-- ---- a reading looks at its structure only

whole-initiator : (p : List ℕ) → initiator.length ≤ length p → initiator_in (part p 0 initiator.length) ≡ initiator_in p
unfolding initiator_in bytes_past
whole-initiator p long = ap initiator_in (sym (bytes-part p 0 initiator.length long)) ∙ again
  where
    again : initiator_in (bytes_at p 0 initiator.length) ≡ initiator_in p
    again = refl

whole-nic : (p : List ℕ) → nic.length ≤ length p → nic_in (part p 0 nic.length) ≡ nic_in p
unfolding nic_in bytes_past
whole-nic p long = ap nic_in (sym (bytes-part p 0 nic.length long)) ∙ again
  where
    again : nic_in (bytes_at p 0 nic.length) ≡ nic_in p
    again = refl

whole-target : (p : List ℕ) → target.length ≤ length p → target_in (part p 0 target.length) ≡ target_in p
unfolding target_in bytes_past
whole-target p long = ap target_in (sym (bytes-part p 0 target.length long)) ∙ again
  where
    again : target_in (bytes_at p 0 target.length) ≡ target_in p
    again = refl

module _ (t u : List ℕ) (ok : check_of t ≡ Accepted) (like : Begins u t (length_of t)) where
  least : least_length ≤ length_of t
  least = length-least t ok

  ok' : check_of u ≡ Accepted
  ok' = begins-accepted t u ok like

  pub begins-header : header_of u ≡ header_of t
  begins-header =
      header-gives u ok'
      ∙ ap (λ (r : Record). record {
        refusal = accepted;
        header = record { oem_id = r.oem_id; oem_table_id = r.oem_table_id; flags = r.flags };
      }) (begins-record t u ok like)
      ∙ sym (header-gives t ok)

  starts : starts_of u ≡ starts_of t
  starts = begins-starts t u ok like

  -- ---- structures

  -- two answers by slot k's verdict, asked for by a number, are the same where they are so of each refusal, and of a structure
  -- that is present
  by-slot : {R : Type 0} (number k : ℕ) (f g : Verdict → R) → ((r : Refusal) → f (Refused r) ≡ g (Refused r))
      → (present t k ≡ true → f Accepted ≡ g Accepted) → f (slot_verdict (starts_of u) u number k) ≡ g (slot_verdict (starts_of t) t number k)
  by-slot number k f g refused on_both =
      elim (dec_lt number slot_count) [
        | yes h ↦ go h (present t k) refl
        | no h ↦ ap f (slot-unknown u ok' number k (omega arith)) ∙ refused _ ∙ sym (ap g (slot-unknown t ok number k (omega arith)))
      ]
    where
      go : number < slot_count → (b : Bool) → present t k ≡ b → f (slot_verdict (starts_of u) u number k) ≡ g (slot_verdict (starts_of t) t number k)
      go h true on =
          ap f (slot-verdict u ok' number k h (present-same t u (length_of t) least like starts k ∙ on)) ∙ on_both on
          ∙ sym (ap g (slot-verdict t ok number k h on))
      go h false off =
          ap f (slot-missing u ok' number k h (present-same t u (length_of t) least like starts k ∙ off)) ∙ refused _
          ∙ sym (ap g (slot-missing t ok number k h off))

  pub begins-slot-verdict : (number k : ℕ) → slot_verdict (starts_of u) u number k ≡ slot_verdict (starts_of t) t number k
  begins-slot-verdict number k = by-slot number k (λ (v : Verdict). v) (λ (v : Verdict). v) (λ r. refl) (λ on. refl)

  pub begins-structure : (number : ℕ) → structure_of u number ≡ structure_of t number
  unfolding structure_of structure_got structure_from
  begins-structure number =
      ap (λ (j : ℕ). structure_from (starts_of u) u j (slot_verdict (starts_of u) u number j)) (ap (λ (s : List ℕ). slot_called s number) starts)
      ∙ by-slot number (slot_called (starts_of t) number) (structure_from (starts_of u) u (slot_called (starts_of t) number))
      (structure_from (starts_of t) t (slot_called (starts_of t) number)) (λ r. refl) (same (slot_called (starts_of t) number))
    where
      same : (k : ℕ) → present t k ≡ true → structure_from (starts_of u) u k Accepted ≡ structure_from (starts_of t) t k Accepted
      same k on =
          let h = present-below t k on in
          let flags = structure-byte-same t u (length_of t) least like starts k (slot_kept t ok k h on).inside 5
          (omega (arith, (slot-fits k h).flags, (slot-fits k h).words)) in
          let start = start-same t u (length_of t) least like starts k in
          let index = begins-index t u ok like k h in
          λ i. record { refusal = refusal_of Accepted; id = (kind_of k).id; index = index i; start = start i; flags = flags i }

  -- a reading of slot k that looks at the structure's own bytes only
  read_same : {R : Type 0} (k : ℕ) (kind : Kind) (read : List ℕ → R) → (k < slot_count → kind_of k ≡ kind)
      → ((p : List ℕ) → kind.length ≤ length p → read (part p 0 kind.length) ≡ read p) → present t k ≡ true
      → read (drop (start_of u k) u) ≡ read (drop (start_of t k) t)
  read_same k kind read is whole on =
      let h = present-below t k on in
      let size : (kind_of k).length ≡ kind.length = ap (λ (κ : Kind). κ.length) (is h) in
      let long-t : kind.length ≤ length (drop (start_of t k) t) = omega (arith, size, length-drop (start_of t k) t, slot-end-le t ok k h on, length-le t ok) in
      let long-u : kind.length ≤ length (drop (start_of u k) u) =
      omega (arith, size, length-drop (start_of u k) u, start-same t u (length_of t) least like starts k, slot-end-le t ok k h on, like.long) in
      let bytes : part (drop (start_of u k) u) 0 kind.length ≡ part (drop (start_of t k) t) 0 kind.length =
      part-from u (start_of u k) 0 kind.length
      ∙ structure-part-same t u (length_of t) least like starts k (slot_kept t ok k h on).inside 0 kind.length (omega (arith, size))
      ∙ sym (part-from t (start_of t k) 0 kind.length) in
      sym (whole (drop (start_of u k) u) long-u) ∙ ap read bytes ∙ whole (drop (start_of t k) t) long-t

  pub begins-initiator : initiator_of u ≡ initiator_of t
  unfolding initiator_of structure_in shown
  begins-initiator =
      by-slot 0 0
      (λ (v : Verdict). record { refusal = refusal_of v; fields = initiator_in (shown v (drop (start_of u 0) u)) })
      (λ (v : Verdict). record { refusal = refusal_of v; fields = initiator_in (shown v (drop (start_of t 0) t)) })
      (λ r. refl)
      (λ on. ap (λ (x : Initiator). record { refusal = refusal_of Accepted; fields = x })
      (read_same 0 initiator initiator_in (λ h. initiator-kind) whole-initiator on))

  pub begins-nic : (n : ℕ) → nic_of u n ≡ nic_of t n
  unfolding nic_of structure_in shown index_shown
  begins-nic n =
      by-slot (nic_slot n) (nic_slot n)
      (λ (v : Verdict). record {
        refusal = refusal_of v;
        index = index_shown (starts_of u) u v (nic_slot n);
        fields = nic_in (shown v (drop (start_of u (nic_slot n)) u));
      })
      (λ (v : Verdict). record {
        refusal = refusal_of v;
        index = index_shown (starts_of t) t v (nic_slot n);
        fields = nic_in (shown v (drop (start_of t (nic_slot n)) t));
      })
      (λ r. refl)
      (λ on.
      ap₂ (λ (i : ℕ) (x : Nic). record { refusal = refusal_of Accepted; index = i; fields = x })
      (begins-index t u ok like (nic_slot n) (present-below t (nic_slot n) on))
      (read_same (nic_slot n) nic nic_in (nic-kind n) whole-nic on))

  pub begins-target : (n : ℕ) → target_of u n ≡ target_of t n
  unfolding target_of structure_in shown index_shown
  begins-target n =
      by-slot (target_slot n) (target_slot n)
      (λ (v : Verdict). record {
        refusal = refusal_of v;
        index = index_shown (starts_of u) u v (target_slot n);
        fields = target_in (shown v (drop (start_of u (target_slot n)) u));
      })
      (λ (v : Verdict). record {
        refusal = refusal_of v;
        index = index_shown (starts_of t) t v (target_slot n);
        fields = target_in (shown v (drop (start_of t (target_slot n)) t));
      })
      (λ r. refl)
      (λ on.
      ap₂ (λ (i : ℕ) (x : Target). record { refusal = refusal_of Accepted; index = i; fields = x })
      (begins-index t u ok like (target_slot n) (present-below t (target_slot n) on))
      (read_same (target_slot n) target target_in (target-kind n) whole-target on))

  -- ---- entries

  holds-u : (n : ℕ) → holds_entry u n ≡ holds_entry t n
  holds-u n =
      elim (dec_lt n entry_count) [
        | yes h ↦ begins-holds t u ok like n h
        | no h ↦ holds-past u n (omega arith) ∙ sym (holds-past t n (omega arith))
      ]

  by-entry : {R : Type 0} (number n : ℕ) (f g : Verdict → R) → ((r : Refusal) → f (Refused r) ≡ g (Refused r))
      → (holds_entry t n ≡ true → f Accepted ≡ g Accepted) → f (entry_verdict (starts_of u) u number n) ≡ g (entry_verdict (starts_of t) t number n)
  by-entry number n f g refused on_both =
      elim (dec_lt number entry_count) [
        | yes h ↦ go h (holds_entry t n) refl
        | no h ↦ ap f (entry-unknown u ok' number n (omega arith)) ∙ refused _ ∙ sym (ap g (entry-unknown t ok number n (omega arith)))
      ]
    where
      go : number < entry_count → (b : Bool) → holds_entry t n ≡ b → f (entry_verdict (starts_of u) u number n) ≡ g (entry_verdict (starts_of t) t number n)
      go h true on = ap f (entry-verdict u ok' number n h (holds-u n ∙ on)) ∙ on_both on ∙ sym (ap g (entry-verdict t ok number n h on))
      go h false off = ap f (entry-missing u ok' number n h (holds-u n ∙ off)) ∙ refused _ ∙ sym (ap g (entry-missing t ok number n h off))

  pub begins-entry : (number : ℕ) → entry_of u number ≡ entry_of t number
  unfolding entry_of entry_got entry_from
  begins-entry number =
      ap (λ (j : ℕ). entry_from (starts_of u) u j (entry_verdict (starts_of u) u number j)) (ap (λ (s : List ℕ). entry_called s number) starts)
      ∙ by-entry number (entry_called (starts_of t) number) (entry_from (starts_of u) u (entry_called (starts_of t) number))
      (entry_from (starts_of t) t (entry_called (starts_of t) number)) (λ r. refl) (same (entry_called (starts_of t) number))
    where
      same : (n : ℕ) → holds_entry t n ≡ true → entry_from (starts_of u) u n Accepted ≡ entry_from (starts_of t) t n Accepted
      same n on =
          let h = holds-below t n on in
          let own = owner-inside t ok n h (entry-owner-on t n on) in
          let offset = offset-same t u (length_of t) least like starts n h own in
          let size = size_same t u (length_of t) least like starts n h own in
          λ i. record { refusal = refusal_of Accepted; offset = offset i; length = size i }

  pub begins-view : (number : ℕ) → view_of u number ≡ view_of t number
  unfolding view_of view_got shown
  begins-view number =
      ap (λ (j : ℕ). shown (entry_verdict (starts_of u) u number j) (part u (offset_of u j) (size_of u j))) (ap (λ (s : List ℕ). entry_called s number) starts)
      ∙ by-entry number (entry_called (starts_of t) number)
      (λ (v : Verdict). shown v (part u (offset_of u (entry_called (starts_of t) number)) (size_of u (entry_called (starts_of t) number))))
      (λ (v : Verdict). shown v (part t (offset_of t (entry_called (starts_of t) number)) (size_of t (entry_called (starts_of t) number))))
      (λ r. refl)
      (λ on. begins-entry-bytes t u ok like (entry_called (starts_of t) number) (holds-below t (entry_called (starts_of t) number) on) on)
