-- `contents_verdict` meets its contract: part by part, the verdict of the tests from that part on is that of all. Assumes
-- nothing.
use Rattle.std.proofs.Common.{◌≡◌, List, ◌++◌, ℕ, ◌∙◌}
use Rattle.octets.specs.Counting.{gather}
use Rattle.ibft_layout.specs.Layout.{slot_count, entry_count}
use Rattle.table_header.specs.Verdict.{Test, first_of, Verdict, Accepted}
use Rattle.table_header.proofs.VerdictLaws.{returned, append-stop, append-go}
use Rattle.ibft_build_rules.specs.Refusals.{range_tests, extras_tests, flags_tests, image_tests, string_tests, contents_tests, contents_verdict}
use Rattle.ibft_record.proofs.refusals.contents_verdict.Goals as goal

module _ (range strings : List ℕ) where
  -- the tests from each part on
  abbrev from-strings : List Test
  from-strings = gather (string_tests range strings) 0 entry_count

  abbrev from-images : List Test
  from-images = gather (image_tests range) 0 slot_count ++ from-strings

  abbrev from-flags : List Test
  from-flags = flags_tests range ++ from-images

  abbrev from-extras : List Test
  from-extras = extras_tests range ++ from-flags

  -- what is left of all tests, behind each part that has passed
  abbrev Left : List Test → Type 0
  Left tests = first_of tests ≡ contents_verdict range strings

  range-passed : (v : Verdict) → v ≡ first_of (range_tests range) → v ≡ Accepted → Left from-extras
  unfolding contents_verdict contents_tests
  range-passed v is passed = append-go _ _ v is passed

  extras-passed : (v : Verdict) → v ≡ first_of (extras_tests range) → v ≡ Accepted → Left from-extras → Left from-flags
  extras-passed v is passed before = append-go _ _ v is passed ∙ before

  flags-passed : (v : Verdict) → v ≡ first_of (flags_tests range) → v ≡ Accepted → Left from-flags → Left from-images
  flags-passed v is passed before = append-go _ _ v is passed ∙ before

  images-passed : (v : Verdict) → v ≡ first_of (gather (image_tests range) 0 slot_count) → v ≡ Accepted → Left from-images → Left from-strings
  images-passed v is passed before = append-go _ _ v is passed ∙ before

pub returns-in_err-range_verdict : goal.returns-in_err-range_verdict
unfolding contents_verdict contents_tests
returns-in_err-range_verdict c =
    let refused = c.in_err-range_verdict.was in
    returned _ _ _ c.from_residual.ensures.1 refused ∙ append-stop _ _ _ c.range_verdict.ensures _ refused

pub returns-in_err-extras_verdict : goal.returns-in_err-extras_verdict
returns-in_err-extras_verdict c =
    let r = c.args.range.now in
    let s = c.args.strings.now in
    let range = range-passed r s _ c.range_verdict.ensures c.in_ok-range_verdict.was in
    let refused = c.in_err-extras_verdict.was in
    returned _ _ _ c.from_residual-in_err-extras_verdict.ensures.1 refused ∙ append-stop _ _ _ c.extras_verdict.ensures _ refused ∙ range

pub returns-in_err-flags_verdict : goal.returns-in_err-flags_verdict
returns-in_err-flags_verdict c =
    let r = c.args.range.now in
    let s = c.args.strings.now in
    let range = range-passed r s _ c.range_verdict.ensures c.in_ok-range_verdict.was in
    let extras = extras-passed r s _ c.extras_verdict.ensures c.in_ok-extras_verdict.was range in
    let refused = c.in_err-flags_verdict.was in
    returned _ _ _ c.from_residual-in_err-flags_verdict.ensures.1 refused ∙ append-stop _ _ _ c.flags_verdict.ensures _ refused ∙ extras

pub returns-in_err-images_verdict : goal.returns-in_err-images_verdict
returns-in_err-images_verdict c =
    let r = c.args.range.now in
    let s = c.args.strings.now in
    let range = range-passed r s _ c.range_verdict.ensures c.in_ok-range_verdict.was in
    let extras = extras-passed r s _ c.extras_verdict.ensures c.in_ok-extras_verdict.was range in
    let flags = flags-passed r s _ c.flags_verdict.ensures c.in_ok-flags_verdict.was extras in
    let refused = c.in_err-images_verdict.was in
    returned _ _ _ c.from_residual-in_err-images_verdict.ensures.1 refused ∙ append-stop _ _ _ c.images_verdict.ensures _ refused ∙ flags

pub returns : goal.returns
returns c =
    let r = c.args.range.now in
    let s = c.args.strings.now in
    let range = range-passed r s _ c.range_verdict.ensures c.in_ok-range_verdict.was in
    let extras = extras-passed r s _ c.extras_verdict.ensures c.in_ok-extras_verdict.was range in
    let flags = flags-passed r s _ c.flags_verdict.ensures c.in_ok-flags_verdict.was extras in
    let images = images-passed r s _ c.images_verdict.ensures c.in_ok-images_verdict.was flags in
    c.strings_verdict.ensures ∙ images
