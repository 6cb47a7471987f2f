-- Laws of the plan as a whole.
--     heap_is      the heap starts at the last of the ends
--     length-is    Length, as the code adds it up
--     known        what follows from a plan
-- Assumes nothing.
use mathlib.Core.Path.{◌≡◌, sym, ap, ap₂, ◌∙◌}
use mathlib.Core.List.{List}
use Prim.Native.Nat.{ℕ, ◌+◌, ◌≤◌}
use native.Mathlib.Omega.{arith}
use lib.ListN.{length, get_or}
use Rattle.octets.proofs.CountingLaws.{length-tabulate}
use Rattle.octets.specs.Counting.{sum_to}
use Rattle.octets.proofs.CutLaws.{sum_to-cut}
use Rattle.string_heap.specs.Stored.{heap_size}
use Rattle.ibft_layout.specs.Layout.{slot_count, entry_count, control_end, may_share}
use Rattle.ibft_build_rules.specs.RecordRange.{content_given}
use Rattle.ibft_build_rules.specs.Plan.{heap_start, length_built, offset_built}
use Rattle.ibft_record.specs.Limits.{entry_limit, extras_given}
use Rattle.ibft_build.specs.Planning.{entries_given, end_given}
use Rattle.ibft_build.specs.Planning.{size_given, entry_offsets, structure_ends, Planned}
use Rattle.ibft_build.proofs.StartLaws.{ends_at, ends-bound, end-built, end-first, end-grows}
use Rattle.ibft_record.proofs.RecordLaws.{entry-limit-most}
use Rattle.ibft_build.proofs.EntryLaws.{fields-count, wanted-count}
use Rattle.ibft_build.proofs.CoverLaws.{size-past}
use Rattle.ibft_build.proofs.PlaceLaws.{sizes-count}

module _ (r s : List ℕ) where
  pub heap_is : (ends : List ℕ) → ends ≡ structure_ends r → get_or ends slot_count 0 ≡ heap_start (content_given r s)
  unfolding heap_start
  heap_is ends are = ends_at r ends are slot_count (omega arith) ∙ sym (end-built r s slot_count)

  -- entries from the limit on take nothing
  heap-sum : sum_to (entry_limit r) (size_given r s) ≡ heap_size entry_count may_share (entries_given r s)
  unfolding heap_size size_given
  heap-sum = sym (sum_to-cut (entry_limit r) entry_count (size_given r s) (entry-limit-most r) (λ k l h. size-past r s k l))

  pub length-is : (heap k m : ℕ) → heap ≡ heap_start (content_given r s) → k ≡ entry_limit r → m ≡ sum_to k (size_given r s)
      → heap + m ≡ length_built (content_given r s)
  unfolding length_built
  length-is heap k m h end e = ap₂ (λ (x y : ℕ). x + y) h (e ∙ ap (λ (n : ℕ). sum_to n (size_given r s)) end ∙ heap-sum)

-- what follows from a plan
module _ (r s ends fields wanted sizes offsets : List ℕ) (size : ℕ) (plan : Planned r s ends fields wanted sizes offsets size) where
  pub record Known : Type 0 where
    pub fields-count : length fields ≡ entry_count
    pub wanted-count : length wanted ≡ entry_count
    pub sizes-count : length sizes ≡ entry_count
    pub offsets-count : length offsets ≡ entry_count
    -- the heap's start and end
    pub end : get_or ends slot_count 0 ≡ end_given r slot_count
    pub start : get_or ends slot_count 0 ≡ heap_start (content_given r s)
    pub whole : get_or ends slot_count 0 + heap_size entry_count may_share (entries_given r s) ≡ size
    pub low : control_end (extras_given r) ≤ get_or ends slot_count 0
    pub high : get_or ends slot_count 0 ≤ 1454

  pub known : Known
  unfolding length_built entry_offsets
  known =
      let at = ends_at r ends plan.ends-are slot_count (omega arith) in
      let start = heap_is r s ends plan.ends-are in
      record {
        fields-count = fields-count r fields plan.fields-are;
        wanted-count = wanted-count r wanted plan.wanted-are;
        sizes-count = sizes-count r s sizes plan.sizes-are;
        offsets-count = ap (λ (l : List ℕ). length l) plan.offsets_are ∙ length-tabulate (offset_built (content_given r s)) 0 entry_count;
        end = at;
        start = start;
        whole = ap (λ (n : ℕ). n + heap_size entry_count may_share (entries_given r s)) start ∙ sym plan.length-is;
        low = omega (arith, end-first r, end-grows r 0 slot_count (omega arith));
        high = ends-bound r ends plan.ends-are slot_count (omega arith);
      }
