-- Whatever begins with the first Length bytes of an accepted table reads as the same record, keeps the built order where that
-- table does, and has its login order.
--     begins-starts, begins-index            its starts by slot, its Indices
--     begins-holds, begins-entry-bytes       its entries
--     begins-record, begins-order            its record, whether it keeps the built order
--     begins-login-order, begins-login       its login order, and what the call answers
-- Assumes nothing.
use mathlib.Core.Path.{◌≡◌, refl, sym, ap, ap₂, ◌∙◌}
use mathlib.Core.Bool.{Bool, true, false, cond, ◌&&◌}
use mathlib.Core.List.{List, [], ◌∷◌, ◌++◌}
use Prim.Native.Nat.{ℕ, zero, suc, ◌≤◌, ◌<◌}
use native.Mathlib.Decide.{dec_lt}
use native.Mathlib.Omega.{arith}
use borrow.Author.Tests.{le-ltb}
use lib.Dec.{ltb}
use Rattle.octets.specs.Octets.{part, differs}
use Rattle.ibft_layout.specs.Layout.{slot_count, entry_count, target_slot, target_count, least_length}
use Rattle.table_header.specs.Header.{length_of}
use Rattle.ibft_table.specs.Table.{heap_of, starts_of, index_in, present, size_of, offset_of, holds_entry}
use Rattle.ibft_table.specs.Check.{check_of}
use Rattle.ibft_table.specs.Record.{content_in, content_of, record_of}
use Rattle.ibft_readings.specs.Login.{has, target_flags, valid, selected, chosen, target_index, order_in, order_of, placed, login_from, login_order_of}
use Rattle.table_header.specs.Verdict.{Accepted}
use Rattle.ibft_table_laws.specs.Begins.{Begins}
use Rattle.ibft_table.specs.Order.{keeps_in, keeps_order}
use Rattle.octets.proofs.TestLaws.{and_both}
use Rattle.octets.proofs.CountingLaws.{first-same, gather-same}
use Rattle.ibft_table_laws.proofs.LayoutLaws.{slot-fits}
use Rattle.ibft_table_laws.proofs.TableLaws.{length-least, slot_kept, heap-start-le, owner-inside, entry-owner-on, entry_kept}
use Rattle.ibft_table_laws.proofs.BeginsLaws.{begins-shorter, byte-same, part_same, present-same, structure-byte-same, entry-bytes-same}
use Rattle.ibft_table_laws.proofs.BeginsVerdictLaws.{begins-accepted}
use Rattle.ibft_table_laws.proofs.RecordLaws.{shown-same, same-listed}
use Rattle.ibft_table_laws.proofs.FrontLaws.{front-starts, front-index, front-structure, front-holds}

module _ (t u : List ℕ) (ok : check_of t ≡ Accepted) (like : Begins u t (length_of t)) where
  least : least_length ≤ length_of t
  least = length-least t ok

  -- what stands below the heap
  front : Begins u t (heap_of t)
  front = begins-shorter u t (heap_of t) (length_of t) (heap-start-le t ok) like

  pub begins-starts : starts_of u ≡ starts_of t
  begins-starts = front-starts t u ok front

  pub begins-index : (k : ℕ) → k < slot_count → index_in (starts_of u) u k ≡ index_in (starts_of t) t k
  begins-index = front-index t u ok front

  -- ---- entries

  module _ (n : ℕ) (h : n < entry_count) where
    pub begins-holds : holds_entry u n ≡ holds_entry t n
    begins-holds = front-holds t u ok front n h

    pub begins-entry-bytes : holds_entry t n ≡ true → part u (offset_of u n) (size_of u n) ≡ part t (offset_of t n) (size_of t n)
    begins-entry-bytes on =
        entry-bytes-same t u (length_of t) least like begins-starts n h (owner-inside t ok n h (entry-owner-on t n on))
        (omega (arith, (entry_kept t ok n h on).high))

  -- ---- the record

  pub begins-record : record_of u ≡ record_of t
  unfolding record_of content_of content_in
  begins-record =
      same-listed (content_of u) (content_of t)
      (record {
        oem-id = part_same u t (length_of t) like 10 6 (omega (arith, least));
        oem-table-id = part_same u t (length_of t) like 16 8 (omega (arith, least));
        flags = byte-same u t (length_of t) like 53 (omega (arith, least));
        structures = front-structure t u ok front;
        indices = begins-index;
        entries = λ n h. shown-same (holds_entry u n) (holds_entry t n) _ _ (begins-holds n h) (begins-entry-bytes n h);
      })

  -- ---- the built order

  pub begins-order : keeps_order u ≡ keeps_order t
  unfolding keeps_order
  begins-order = ap keeps_in begins-starts

  -- ---- the login order

  target_below : (n : ℕ) → n < target_count → target_slot n < slot_count
  unfolding target_slot
  target_below zero h = omega arith
  target_below (suc zero) h = omega arith
  target_below (suc (suc zero)) h = omega arith
  target_below (suc (suc (suc zero))) h = omega arith
  target_below (suc (suc (suc (suc zero)))) h = omega arith
  target_below (suc (suc (suc (suc (suc zero))))) h = omega arith
  target_below (suc (suc (suc (suc (suc (suc zero)))))) h = omega arith
  target_below (suc (suc (suc (suc (suc (suc (suc zero))))))) h = omega arith
  target_below (suc (suc (suc (suc (suc (suc (suc (suc n)))))))) h = absurd (omega arith)

  flags-same : (n : ℕ) → n < target_count → present t (target_slot n) ≡ true → target_flags (starts_of u) u n ≡ target_flags (starts_of t) t n
  unfolding target_flags
  flags-same n h on =
      let slot = target_below n h in
      structure-byte-same t u (length_of t) least like begins-starts (target_slot n) (slot_kept t ok (target_slot n) slot on).inside 5
      (omega (arith, (slot-fits (target_slot n) slot).flags, (slot-fits (target_slot n) slot).words))

  valid_same : (n : ℕ) → n < target_count → valid (starts_of u) u n ≡ valid (starts_of t) t n
  unfolding valid
  valid_same n h = go (present t (target_slot n)) refl
    where
      go : (b : Bool) → present t (target_slot n) ≡ b
          → (present u (target_slot n) && has 1 (target_flags (starts_of u) u n)) ≡ (present t (target_slot n) && has 1 (target_flags (starts_of t) t n))
      go false off = rw (present-same t u (length_of t) least like begins-starts (target_slot n), off)
      go true on = rw (present-same t u (length_of t) least like begins-starts (target_slot n), flags-same n h on)

  selected-same : (n : ℕ) → n < target_count → selected (starts_of u) u n ≡ selected (starts_of t) t n
  unfolding selected valid
  selected-same n h = go (valid (starts_of t) t n) refl
    where
      go : (b : Bool) → valid (starts_of t) t n ≡ b
          → (valid (starts_of u) u n && has 2 (target_flags (starts_of u) u n)) ≡ (valid (starts_of t) t n && has 2 (target_flags (starts_of t) t n))
      go false off = rw (valid_same n h, off)
      go true on = rw (valid_same n h, flags-same n h (and_both (present t (target_slot n)) _ on).0)

  chosen-same : chosen (starts_of u) u ≡ chosen (starts_of t) t
  unfolding chosen
  chosen-same =
      ap₂ (λ (f : ℕ) (c : ℕ). cond (has 1 f) c target_count)
      (byte-same u t (length_of t) like 53 (omega (arith, least)))
      (first-same target_count (selected (starts_of u) u) (selected (starts_of t) t) selected-same)

  target-index-same : (n : ℕ) → n < target_count → target_index (starts_of u) u n ≡ target_index (starts_of t) t n
  unfolding target_index
  target-index-same n h = begins-index (target_slot n) (target_below n h)

  front_same : cond (ltb (chosen (starts_of u) u) target_count) (target_index (starts_of u) u (chosen (starts_of u) u) ∷ []) []
      ≡ cond (ltb (chosen (starts_of t) t) target_count) (target_index (starts_of t) t (chosen (starts_of t) t) ∷ []) []
  front_same =
      ap (λ (c : ℕ). cond (ltb c target_count) (target_index (starts_of u) u c ∷ []) []) chosen-same
      ∙ elim (dec_lt (chosen (starts_of t) t) target_count) [
        | yes l ↦ ap (λ (i : ℕ). cond (ltb (chosen (starts_of t) t) target_count) (i ∷ []) []) (target-index-same (chosen (starts_of t) t) l)
        | no l ↦ rw (le-ltb (chosen (starts_of t) t) target_count (omega arith))
      ]

  pub begins-login-order : order_of u ≡ order_of t
  unfolding order_of order_in
  begins-login-order =
      ap₂ ◌++◌ front_same
      (gather-same
      (λ (n : ℕ). cond (valid (starts_of u) u n && differs n (chosen (starts_of u) u)) (target_index (starts_of u) u n ∷ []) [])
      (λ (n : ℕ). cond (valid (starts_of t) t n && differs n (chosen (starts_of t) t)) (target_index (starts_of t) t n ∷ []) [])
      0 target_count
      (λ n l h.
      ap₂ (λ (v : Bool) (c : ℕ). cond (v && differs n c) (target_index (starts_of u) u n ∷ []) []) (valid_same n (omega arith)) chosen-same
      ∙ ap (λ (i : ℕ). cond (valid (starts_of t) t n && differs n (chosen (starts_of t) t)) (i ∷ []) []) (target-index-same n (omega arith))))

  pub begins-login : login_order_of u ≡ login_order_of t
  unfolding login_order_of login_from
  begins-login =
      ap (login_from u) (begins-accepted t u ok like) ∙ ap (placed Accepted) begins-login-order ∙ sym (ap (login_from t) ok)
