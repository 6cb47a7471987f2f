-- `sbft_write` meets its contract: the place of what a write answers fits its bits, so the three parts can be told from the
-- packed number.
-- Assumes nothing.
use Rattle.sbft.proofs.PlaceLaws.{write-below}
use Rattle.bootfw.proofs.sbft_write.Goals as goal

pub write_answer-requires : goal.write_answer-requires
write_answer-requires c = rw c.write.ensures.answer-is (write-below _ _)

pub returns : goal.returns
returns c =
    let written = c.write in
    record { answer = rw (← written.ensures.answer-is) c.write_answer.ensures; promise = rw written.ensures.answer-is at written.ensures }
