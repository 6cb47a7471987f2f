-- `tell` meets its contract: the check, then the text. Assumes nothing.
use Rattle.text.proofs.PutLaws.{puts-same}
use Rattle.record_text.proofs.TellLaws.{text-accepted, text-refused}
use Rattle.record_text.proofs.tell.tell.Goals as goal

pub returns-in-Ok : goal.returns-in-Ok
returns-in-Ok c =
    puts-same c.put_record.ensures (text-accepted _ _ _ c.check.ensures.verdict-is c.in-Ok.is)

pub returns-in-Err : goal.returns-in-Err
returns-in-Err c =
    puts-same c.put_text.ensures (text-refused _ _ _ c.check.ensures.verdict-is _ c.in-Err.is)
