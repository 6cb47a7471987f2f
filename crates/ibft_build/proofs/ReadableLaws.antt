-- Contents that are not refused are sound: the range is whole, and each present entry lies in the strings range and is not too
-- long. This is what the plan and the writers take for granted.
--     accepted-readable     contents not refused are sound
-- Assumes nothing.
use mathlib.Core.Path.{◌≡◌}
use mathlib.Core.Bool.{true}
use mathlib.Core.List.{List, ◌++◌}
use Prim.Native.Nat.{ℕ, ◌+◌, ◌≤◌, ◌<◌}
use native.Mathlib.Omega.{arith}
use lib.ListN.{length}
use borrow.Author.Tests.{ltb-false}
use Rattle.octets.specs.Counting.{gather}
use Rattle.ibft_layout.specs.Layout.{slot_count, entry_count, string_of}
use Rattle.table_header.specs.Verdict.{Test, first_of, Accepted}
use Rattle.table_header.proofs.VerdictLaws.{passes, append-passes, gather-passes}
use Rattle.ibft_table_laws.proofs.LayoutLaws.{entry-fits}
use Rattle.ibft_build_rules.specs.RecordRange.{entry_given, length_given, start_given}
use Rattle.ibft_build_rules.specs.Refusals.{range_tests, extras_tests, flags_tests, image_tests, string_tests, contents_tests, contents_verdict}
use Rattle.ibft_build_rules.proofs.GoodLaws.{range-good, image-fits}
use Rattle.ibft_build.specs.Planning.{Whole, Readable}

module _ (r s : List ℕ) (accepted : contents_verdict r s ≡ Accepted) where
  -- the tests from the extras on, and those of the entries
  abbrev behind : List Test
  behind = extras_tests r ++ (flags_tests r ++ (gather (image_tests r) 0 slot_count ++ gather (string_tests r s) 0 entry_count))

  range-and-rest : (first_of (range_tests r) ≡ Accepted) × (first_of behind ≡ Accepted)
  unfolding contents_verdict contents_tests
  range-and-rest = append-passes (range_tests r) behind accepted

  entry-tests : (n : ℕ) → n < entry_count → first_of (string_tests r s n) ≡ Accepted
  entry-tests n h =
      let images = gather (image_tests r) 0 slot_count in
      let strings = gather (string_tests r s) 0 entry_count in
      let behind-extras = (append-passes (extras_tests r) (flags_tests r ++ (images ++ strings)) range-and-rest.1).1 in
      let behind-flags = (append-passes (flags_tests r) (images ++ strings) behind-extras).1 in
      gather-passes (string_tests r s) entry_count 0 n (append-passes images strings behind-flags).1 (omega arith) (omega arith)

  whole : Whole r
  whole =
      let long = (range-good r range-and-rest.0).long in
      record { base = long.base; images = λ k on. image-fits r long k on }

  entry-readable : (n : ℕ) → n < entry_count → entry_given r n ≡ true → (start_given r n + length_given r n ≤ length s) × (length_given r n ≤ 255)
  unfolding string_tests
  entry-readable n h on =
      let lies = passes _ _ (rw on at (entry-tests n h)) in
      let short = passes _ _ lies.1 in (
        ltb-false (length s) (start_given r n + length_given r n) lies.0,
        omega (arith, ltb-false (string_of n).longest (length_given r n) short.0, (entry-fits n h).longest),
      )

  pub accepted-readable : Readable r s
  accepted-readable = record { whole = whole; lies = λ n h on. (entry-readable n h on).0; short = λ n h on. (entry-readable n h on).1 }
