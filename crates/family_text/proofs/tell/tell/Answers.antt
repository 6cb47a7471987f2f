-- `tell` meets its contract: the check, then the text. Assumes nothing.
use Rattle.text.proofs.PutLaws.{puts-same}
use Rattle.family_text.proofs.TellLaws.{text-accepted, text-refused}
use Rattle.family_text.proofs.tell.tell.Goals as goal

pub returns-in-Ok : goal.returns-in-Ok
returns-in-Ok c =
    puts-same c.put_lines.ensures (text-accepted _ _ _ c.check_of.ensures c.in-Ok.is)

pub returns-in-Err : goal.returns-in-Err
returns-in-Err c =
    puts-same c.put_text.ensures (text-refused _ _ _ c.check_of.ensures _ c.in-Err.is)
