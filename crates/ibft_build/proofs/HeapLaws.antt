-- Laws of the heap's writer, each shaped like what the code leaves.
--     entry-put, entry_kept    an entry that is stored, and one that is not
--     heap-none, heap-next     the loop over the entries
--     heap-whole               the stretch once all are written
-- Assumes nothing.
use Rattle.std.specs.Prelude.{None, Some}
use mathlib.Core.Path.{◌≡◌, refl, sym, ap, ap₂, ◌∙◌}
use mathlib.Core.Bool.{Bool, true, false}
use mathlib.Core.List.{List, [], ◌∷◌}
use Prim.Native.Nat.{ℕ, ◌+◌, ◌-◌, ◌<◌}
use native.Mathlib.Numerals.{add-one}
use native.Mathlib.Omega.{arith}
use lib.ListN.{length}
use Rattle.octets.specs.Counting.{sum_to}
use Rattle.octets.specs.Octets.{write}
use Rattle.octets.proofs.CountingLaws.{clash}
use Rattle.octets.proofs.WriteLaws.{write-nothing}
use Rattle.string_heap.specs.Stored.{Entry, stored, heap_size}
use Rattle.string_heap.specs.Places.{bytes_of, heap_to}
use Rattle.string_heap.proofs.HolderLaws.{heap-length}
use Rattle.string_heap.proofs.CutLaws.{heap_to-past}
use Rattle.ibft_layout.specs.Layout.{entry_count, may_share}
use Rattle.ibft_build_rules.specs.RecordRange.{bytes_given}
use Rattle.ibft_record.specs.Limits.{entry_limit}
use Rattle.ibft_build.specs.Planning.{Readable, entries_given, size_given}
use Rattle.ibft_record.proofs.RecordLaws.{entry-limit-most, entry_past}
use Rattle.ibft_build.proofs.EntryLaws.{entry-none}
use Rattle.ibft_build.proofs.PlaceLaws.{size-kept, size-gone, size-lies}
use Rattle.ibft_build.proofs.PatchLaws.{write_then, write-all}

-- entry n takes w
module _ (r s : List ℕ) (sound : Readable r s) (n : ℕ) (h : n < entry_count) (w : ℕ) (takes : w ≡ size_given r s n) (t : List ℕ) (at : ℕ) where
  pub entry-put : 0 < w → (bytes u v : List ℕ) → bytes ≡ bytes_given r s n → u ≡ write t at bytes
      → v ≡ write u (at + (w - 1)) (0 ∷ []) → v ≡ write t at (bytes_of (entries_given r s n) (stored entry_count may_share (entries_given r s) n))
  unfolding bytes_of
  entry-put pos bytes u v eb eu ev =
      let lies = size-lies r s n sound h w takes pos in
      let long = lies.length-is in
      write_then t u v at (at + (w - 1)) (bytes_given r s n) (0 ∷ []) (eu ∙ ap (write t at) eb) ev (omega arith)
      ∙ sym (ap₂ (λ (o : Entry) (b : Bool). write t at (bytes_of o b)) lies.is (size-kept r s n (omega arith)))

  pub entry_kept : w ≡ 0 → t ≡ write t at (bytes_of (entries_given r s n) (stored entry_count may_share (entries_given r s) n))
  unfolding bytes_of
  entry_kept e =
      sym (ap (write t at) (none_of (entries_given r s n) (stored entry_count may_share (entries_given r s) n)
      (size-gone r s n sound h (omega arith))) ∙ write-nothing t at)
    where
      none_of : (o : Entry) (b : Bool) → b ≡ false → bytes_of o b ≡ []
      none_of None b q = refl
      none_of (Some a) true q = clash refl q
      none_of (Some a) false q = refl

module _ (r s t : List ℕ) where
  pub heap-none : t ≡ write t 0 (heap_to entry_count may_share (entries_given r s) 0)
  unfolding heap_to
  heap-none = sym (write-nothing t 0)

  pub heap-next : (n at : ℕ) (u v : List ℕ) → u ≡ write t 0 (heap_to entry_count may_share (entries_given r s) n) → at ≡ sum_to n (size_given r s)
      → v ≡ write u at (bytes_of (entries_given r s n) (stored entry_count may_share (entries_given r s) n)) → v
      ≡ write t 0 (heap_to entry_count may_share (entries_given r s) (n + 1))
  unfolding heap_to size_given
  heap-next n at u v e ea ev =
      write_then t u v 0 at (heap_to entry_count may_share (entries_given r s) n)
      (bytes_of (entries_given r s n) (stored entry_count may_share (entries_given r s) n)) e ev
      (omega (arith, heap-length entry_count may_share (entries_given r s) n))
      ∙ ap (λ (m : ℕ). write t 0 (heap_to entry_count may_share (entries_given r s) m)) (sym (add-one n))

  pub heap-whole : (n limit : ℕ) (u : List ℕ) → u ≡ write t 0 (heap_to entry_count may_share (entries_given r s) n) → n ≡ limit → limit ≡ entry_limit r
      → length t ≡ heap_size entry_count may_share (entries_given r s) → u ≡ heap_to entry_count may_share (entries_given r s) entry_count
  unfolding heap_size
  heap-whole n limit u e en el lt =
      let all : heap_to entry_count may_share (entries_given r s) n ≡ heap_to entry_count may_share (entries_given r s) entry_count =
      ap (heap_to entry_count may_share (entries_given r s)) (en ∙ el)
      ∙ sym (heap_to-past (entry_limit r) entry_count may_share (entries_given r s) (entry-limit-most r)
      (λ i h. entry-none r s i (entry_past r i h)) entry_count (entry-limit-most r)) in
      e ∙ ap (write t 0) all
      ∙ write-all t (heap_to entry_count may_share (entries_given r s) entry_count) (heap-length entry_count may_share (entries_given r s) entry_count ∙ sym lt)
