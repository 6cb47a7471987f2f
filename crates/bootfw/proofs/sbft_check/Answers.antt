-- `sbft_check` meets its contract: a refusal's place fits its bits, so number and place can be told from the packed number.
-- Assumes nothing.
use native.Mathlib.Omega.{arith}
use Rattle.sbft.proofs.PlaceLaws.{check-below}
use Rattle.bootfw.proofs.sbft_check.Goals as goal

pub check_answer-requires : goal.check_answer-requires
check_answer-requires c = check-below _ (λ i. omega (arith, c.shared_slice_known-1.given i)) _ c.check.ensures.verdict-is

pub returns : goal.returns
returns c =
    let check = c.check in
    record { answer = rw (← check.ensures.verdict-is) c.check_answer.ensures; promise = rw check.ensures.verdict-is at check.ensures }
