-- `range_verdict` meets its contract. After the k-th test has passed, the verdict of all tests is that of the tests behind it.
-- Assumes nothing.
use Rattle.std.proofs.Common.{sym, ap, ◌∙◌}
use Rattle.table_header.specs.Verdict.{first_of}
use Rattle.table_header.specs.Header.{padded}
use Rattle.ibft_build_rules.specs.Refusals.{range_tests}
use Rattle.ibft_record.proofs.refusals_range.range_verdict.Goals as goal

pub returns-then-has_wrong_size : goal.returns-then-has_wrong_size
unfolding first_of range_tests
returns-then-has_wrong_size c = c.refuse.ensures ∙ sym (rw (sym c.has_wrong_size.ensures ∙ c.if-has_wrong_size.true))

pub returns-then-has_bad_mark : goal.returns-then-has_bad_mark
unfolding first_of range_tests
returns-then-has_bad_mark c =
    c.refuse-then-has_bad_mark.ensures ∙ sym (rw (
      sym c.has_wrong_size.ensures ∙ c.if-has_wrong_size.false,
      sym c.has_bad_mark.ensures ∙ c.if-has_bad_mark.true,
    ))

pub returns-then-has_bad_nic : goal.returns-then-has_bad_nic
unfolding first_of range_tests
returns-then-has_bad_nic c =
    c.refuse-then-has_bad_nic.ensures ∙ sym (rw (
      sym c.has_wrong_size.ensures ∙ c.if-has_wrong_size.false,
      sym c.has_bad_mark.ensures ∙ c.if-has_bad_mark.false,
      sym c.has_bad_nic.ensures ∙ c.if-has_bad_nic.true,
    ))

pub returns-then-has_bad_target : goal.returns-then-has_bad_target
unfolding first_of range_tests
returns-then-has_bad_target c =
    c.refuse-then-has_bad_target.ensures ∙ sym (rw (
      sym c.has_wrong_size.ensures ∙ c.if-has_wrong_size.false,
      sym c.has_bad_mark.ensures ∙ c.if-has_bad_mark.false,
      sym c.has_bad_nic.ensures ∙ c.if-has_bad_nic.false,
      sym c.has_bad_target.ensures ∙ c.if-has_bad_target.true,
    ))

pub returns-then-not-is_padded : goal.returns-then-not-is_padded
unfolding first_of range_tests
returns-then-not-is_padded c =
    c.refuse-then-not-is_padded.ensures ∙ sym (rw (
      sym c.has_wrong_size.ensures ∙ c.if-has_wrong_size.false,
      sym c.has_bad_mark.ensures ∙ c.if-has_bad_mark.false,
      sym c.has_bad_nic.ensures ∙ c.if-has_bad_nic.false,
      sym c.has_bad_target.ensures ∙ c.if-has_bad_target.false,
      sym (c.is_padded.ensures ∙ ap padded c.part.ensures.bytes) ∙ c.if-not-is_padded.true,
    ))

pub returns-then-not-is_padded-2 : goal.returns-then-not-is_padded-2
unfolding first_of range_tests
returns-then-not-is_padded-2 c =
    c.refuse-then-not-is_padded-2.ensures ∙ sym (rw (
      sym c.has_wrong_size.ensures ∙ c.if-has_wrong_size.false,
      sym c.has_bad_mark.ensures ∙ c.if-has_bad_mark.false,
      sym c.has_bad_nic.ensures ∙ c.if-has_bad_nic.false,
      sym c.has_bad_target.ensures ∙ c.if-has_bad_target.false,
      sym (c.is_padded.ensures ∙ ap padded c.part.ensures.bytes) ∙ c.if-not-is_padded.false,
      sym (c.is_padded-2.ensures ∙ ap padded c.part-2.ensures.bytes) ∙ c.if-not-is_padded-2.true,
    ))

pub returns : goal.returns
unfolding first_of range_tests
returns c =
    sym (rw (
      sym c.has_wrong_size.ensures ∙ c.if-has_wrong_size.false,
      sym c.has_bad_mark.ensures ∙ c.if-has_bad_mark.false,
      sym c.has_bad_nic.ensures ∙ c.if-has_bad_nic.false,
      sym c.has_bad_target.ensures ∙ c.if-has_bad_target.false,
      sym (c.is_padded.ensures ∙ ap padded c.part.ensures.bytes) ∙ c.if-not-is_padded.false,
      sym (c.is_padded-2.ensures ∙ ap padded c.part-2.ensures.bytes) ∙ c.if-not-is_padded-2.false,
    ))
