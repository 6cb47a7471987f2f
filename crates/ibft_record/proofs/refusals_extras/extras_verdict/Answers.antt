-- `extras_verdict` meets its contract: the extra NICs refuse, or the extra targets decide. Assumes nothing.
use mathlib.Core.Path.{◌∙◌}
use Rattle.table_header.proofs.VerdictLaws.{returned, append-stop, append-go}
use Rattle.ibft_build_rules.specs.Refusals.{extras_tests}
use Rattle.ibft_record.proofs.refusals_extras.extras_verdict.Goals as goal

pub returns-in_err-nics_verdict : goal.returns-in_err-nics_verdict
unfolding extras_tests
returns-in_err-nics_verdict c = returned _ _ _ c.from_residual.ensures.1 c.in_err-nics_verdict.was ∙ append-stop _ _ _ c.nics_verdict.ensures _ c.in_err-nics_verdict.was

pub returns : goal.returns
unfolding extras_tests
returns c = c.targets_verdict.ensures ∙ append-go _ _ _ c.nics_verdict.ensures c.in_ok-nics_verdict.was
