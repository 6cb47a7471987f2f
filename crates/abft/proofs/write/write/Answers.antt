-- `write` meets its contract: refused or not, it ends with the definitions' answer and room, and the promise follows from
-- these.
-- Assumes nothing.
use Rattle.abft.specs.Abft.{write_verdict}
use Rattle.abft.proofs.AbftLaws.{fits, promise-refused, promise-accepted}
use Rattle.abft.proofs.write.write.Goals as goal

pub returns-in-Err : goal.returns-in-Err
unfolding write_verdict
returns-in-Err c =
    let a = c.args in
    promise-refused a.image.now a.room.now _ c.check_write-verdict.ensures _ _ c.in-Err.is c.written_of.ensures

pub put_table-requires : goal.put_table-requires
unfolding write_verdict
put_table-requires c =
    let a = c.args in
    fits a.image.now a.room.now _ c.check_write-verdict.ensures c.in_default.is

pub returns : goal.returns
unfolding write_verdict
returns c =
    let a = c.args in
    promise-accepted a.image.now a.room.now _ c.check_write-verdict.ensures _ _
    c.in_default.is c.written_of-2.ensures c.put_table.ensures
