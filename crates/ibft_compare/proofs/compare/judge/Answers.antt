-- `judge` meets its contract, by cases of the two verdicts. Assumes nothing.
use mathlib.Core.Path.{sym, ◌∙◌}
use Rattle.ibft_compare.specs.Compare.{both_verdict, side_of, verdict_of}
use Rattle.ibft_compare.proofs.compare.judge.Goals as goal

pub returns-in-Err : goal.returns-in-Err
unfolding both_verdict side_of verdict_of
returns-in-Err c =
    let left = sym c.check-verdict.ensures.verdict-is ∙ c.in-Err.is in
    (rw left c.in-Err.is, rw left)

pub returns-in-Ok : goal.returns-in-Ok
unfolding both_verdict side_of verdict_of
returns-in-Ok c =
    let left = sym c.check-verdict.ensures.verdict-is ∙ c.in_default.is in
    let right = sym c.check-verdict-2.ensures.verdict-is ∙ c.in-Ok.is in
    (rw (left, right) c.in-Ok.is, rw (left, right))

pub returns-in-Err-verdict : goal.returns-in-Err-verdict
unfolding both_verdict side_of verdict_of
returns-in-Err-verdict c =
    let left = sym c.check-verdict.ensures.verdict-is ∙ c.in_default.is in
    let right = sym c.check-verdict-2.ensures.verdict-is ∙ c.in-Err-verdict.is in
    (rw (left, right) c.in-Err-verdict.is, rw (left, right))
