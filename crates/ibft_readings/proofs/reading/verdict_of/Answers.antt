-- `verdict_of` meets its contract: a refusal of the check stands; where it accepts, the test that fails settles it.
-- Assumes nothing.
use Rattle.std.proofs.Common.{sym, ◌∙◌}
use Rattle.ibft_table.specs.Check.{check_of}
use Rattle.table_header.specs.Verdict.{first_of}
use Rattle.table_header.proofs.VerdictLaws.{returned, append-stop}
use Rattle.ibft_readings.proofs.ReadingLaws.{check-accepts}
use Rattle.ibft_readings.proofs.reading.verdict_of.Goals as goal

pub returns-in_err-check : goal.returns-in_err-check
unfolding check_of
returns-in_err-check c =
    let refused = c.in_err-check.was in
    returned _ _ _ c.from_residual.ensures.1 refused ∙ append-stop _ _ _ c.check.ensures.verdict-is _ refused

pub returns-then-beyond : goal.returns-then-beyond
unfolding first_of
returns-then-beyond c =
    let accepted = sym c.check.ensures.verdict-is ∙ c.in_ok-check.was in
    sym (check-accepts _ _ accepted ∙ rw c.if-beyond.true (sym c.refuse.ensures))

pub returns-then-missing : goal.returns-then-missing
unfolding first_of
returns-then-missing c =
    let accepted = sym c.check.ensures.verdict-is ∙ c.in_ok-check.was in
    sym (check-accepts _ _ accepted ∙ rw (c.if-beyond.false, c.if-missing.true) (sym c.refuse-then-missing.ensures))

pub returns : goal.returns
unfolding first_of
returns c =
    let accepted = sym c.check.ensures.verdict-is ∙ c.in_ok-check.was in
    sym (check-accepts _ _ accepted ∙ rw (c.if-beyond.false, c.if-missing.false))
