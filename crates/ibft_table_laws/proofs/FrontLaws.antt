-- What stands below the heap of an accepted table stands in every list that begins with its bytes up to there: all of it but
-- the bytes of the strings.
--     front-least                                    header and Control are below it
--     front-starts, front-index, front-structure     starts by slot, Indices, structures
--     front-holds, front-size, front-offset          which entries are present, and their words
-- Assumes nothing.
use mathlib.Core.Path.{◌≡◌, refl}
use mathlib.Core.Bool.{Bool, true, false, cond}
use mathlib.Core.List.{List}
use Prim.Native.Nat.{ℕ, ◌+◌, ◌≤◌, ◌<◌}
use native.Mathlib.Omega.{arith}
use lib.Dec.{ltb}
use Rattle.octets.specs.Octets.{byte}
use Rattle.ibft_layout.specs.Layout.{kind_of, index_of, slot_count, named_count, entry_count, owner_of, least_length}
use Rattle.ibft_table.specs.Table.{word_count, start_at, used_at, end_at, heap_of, starts_of, index_in, present, start_of, end_of, size_of, offset_of, holds_entry}
use Rattle.ibft_table.specs.Check.{check_of}
use Rattle.ibft_table.specs.Record.{body_size, content_in, content_of}
use Rattle.table_header.specs.Verdict.{Accepted}
use Rattle.ibft_table.proofs.CheckLaws.{heap-after-control}
use Rattle.ibft_table_laws.specs.Begins.{Begins}
use Rattle.ibft_table_laws.proofs.LayoutLaws.{slot-fits, entry-fits}
use Rattle.ibft_table_laws.proofs.HeapLaws.{heap-end as word_end}
use Rattle.ibft_table_laws.proofs.TableLaws.{facts, heap-end, entry-owner-on}
use Rattle.ibft_table_laws.proofs.RecordLaws.{shown-same}
use Rattle.ibft_table_laws.proofs.BeginsLaws.{starts-same, present-same, structure-byte-same, structure-part-same, holds_same, size_same, offset-same}
use Rattle.ibft_table_laws.proofs.BeginsVerdictLaws.{kind-long}

module _ (t u : List ℕ) (ok : check_of t ≡ Accepted) (like : Begins u t (heap_of t)) where
  pub front-least : least_length ≤ heap_of t
  front-least = omega (arith, heap-after-control t, (facts t ok).control.long)

  six : (w : ℕ) → w < word_count t → used_at t w ≡ true → start_at t w + 6 ≤ heap_of t
  unfolding end_at
  six w h on = omega (arith, word_end t w h on, kind-long t w)

  pub front-starts : starts_of u ≡ starts_of t
  front-starts = starts-same t u (heap_of t) front-least like (heap-after-control t) six

  -- ---- structures

  pub front-index : (k : ℕ) → k < slot_count → index_in (starts_of u) u k ≡ index_in (starts_of t) t k
  unfolding index_in
  front-index k h = go (present t k) refl
    where
      go : (b : Bool) → present t k ≡ b
          → cond (ltb k named_count) (index_of k) (cond (present u k) (byte u (start_of u k + 4)) 0)
          ≡ cond (ltb k named_count) (index_of k) (cond (present t k) (byte t (start_of t k + 4)) 0)
      go false off = rw (present-same t u (heap_of t) front-least like front-starts k, off)
      go true on =
          let fits = slot-fits k h in
          let flags = fits.flags in
          rw (
            present-same t u (heap_of t) front-least like front-starts k,
            on,
            structure-byte-same t u (heap_of t) front-least like front-starts k (heap-end t ok k h on) 4
                (omega (arith, fits.words)),
          )

  pub front-structure : (k : ℕ) → k < slot_count → (content_of u).structure k ≡ (content_of t).structure k
  unfolding content_of content_in
  front-structure k h =
      shown-same (present u k) (present t k) _ _ (present-same t u (heap_of t) front-least like front-starts k)
      (λ on. structure-part-same t u (heap_of t) front-least like front-starts k (heap-end t ok k h on) 5
      (body_size (kind_of k)) (omega (arith, (slot-fits k h).flags, (slot-fits k h).words)))

  -- ---- entries

  module _ (n : ℕ) (h : n < entry_count) where
    owner-end : present t (owner_of n) ≡ true → end_of t (owner_of n) ≤ heap_of t
    owner-end on = heap-end t ok (owner_of n) (entry-fits n h).owner on

    pub front-holds : holds_entry u n ≡ holds_entry t n
    front-holds = holds_same t u (heap_of t) front-least like front-starts n h owner-end

    pub front-size : holds_entry t n ≡ true → size_of u n ≡ size_of t n
    front-size on = size_same t u (heap_of t) front-least like front-starts n h (owner-end (entry-owner-on t n on))

    pub front-offset : holds_entry t n ≡ true → offset_of u n ≡ offset_of t n
    front-offset on = offset-same t u (heap_of t) front-least like front-starts n h (owner-end (entry-owner-on t n on))
