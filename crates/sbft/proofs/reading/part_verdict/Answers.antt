-- `part_verdict` meets its contract: a refusal of the check stands; where it accepts, the part decides. Assumes nothing.
use mathlib.Core.Path.{sym, ◌∙◌}
use Rattle.table_header.specs.Verdict.{first_of}
use Rattle.table_header.proofs.VerdictLaws.{returned, append-stop}
use Rattle.sbft.specs.Check.{check_of}
use Rattle.sbft.specs.Readings.{part_verdict}
use Rattle.sbft.proofs.ReadingLaws.{behind-check}
use Rattle.sbft.proofs.reading.part_verdict.Goals as goal

pub returns-in_err-check : goal.returns-in_err-check
unfolding check_of part_verdict
returns-in_err-check c =
    let refused = c.in_err-check.was in
    returned _ _ _ c.from_residual.ensures.1 refused ∙ append-stop _ _ _ c.check.ensures.verdict-is _ refused

pub returns-then-absent : goal.returns-then-absent
unfolding part_verdict first_of
returns-then-absent c =
    let accepted = sym c.check.ensures.verdict-is ∙ c.in_ok-check.was in
    sym (behind-check _ _ accepted ∙ rw (sym c.absent.ensures ∙ c.if-absent.true) (sym c.refuse.ensures))

pub returns : goal.returns
unfolding part_verdict first_of
returns c =
    let accepted = sym c.check.ensures.verdict-is ∙ c.in_ok-check.was in
    sym (behind-check _ _ accepted ∙ rw (sym c.absent.ensures ∙ c.if-absent.false))
