-- `ibft_check` meets its contract: a refusal's place fits its bits, so number and place can be told from the packed number.
-- Assumes nothing.
use native.Mathlib.Omega.{arith}
use mathlib.Core.Path.{sym, ◌∙◌}
use Rattle.table_header.proofs.PlaceLaws.{refusal-below}
use Rattle.ibft_table_laws.proofs.PlaceLaws.{place-below}
use Rattle.bootfw.proofs.ibft_check.Goals as goal

pub check_answer-requires : goal.check_answer-requires
check_answer-requires c =
    refusal-below _ (λ r e. place-below _ (λ i. omega (arith, c.shared_slice_known-1.given i)) r (sym c.check.ensures.verdict-is ∙ e))

pub returns : goal.returns
returns c =
    let check = c.check in
    record { answer = rw (← check.ensures.verdict-is) c.check_answer.ensures; promise = rw check.ensures.verdict-is at check.ensures }
