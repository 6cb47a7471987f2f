-- `abft_check` meets its contract: a refusal's place fits its bits, so number and place can be told from the packed number.
-- Assumes nothing.
use Rattle.abft.proofs.PlaceLaws.{check-below}
use Rattle.bootfw.proofs.abft_check.Goals as goal

pub check_answer-requires : goal.check_answer-requires
check_answer-requires c = check-below _ _ c.check.ensures.verdict-is

pub returns : goal.returns
returns c =
    let check = c.check in
    record { answer = rw (← check.ensures.verdict-is) c.check_answer.ensures; promise = rw check.ensures.verdict-is at check.ensures }
