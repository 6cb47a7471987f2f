-- `write` meets its contract: refused or not, it ends with the definitions' answer and room, and the promise follows from
-- these.
-- Assumes nothing.
use Rattle.sbft.specs.Write.{write_verdict}
use Rattle.sbft.proofs.SbftLaws.{fits, promise-refused, promise-accepted}
use Rattle.sbft.proofs.write.write.Goals as goal

pub returns-in-Err : goal.returns-in-Err
unfolding write_verdict
returns-in-Err c =
    let a = c.args in
    let size = c.length_written-size.ensures in
    promise-refused a.image.now a.room.now _ (rw size at c.check_write-verdict.ensures) _ _
    c.in-Err.is (rw size at c.written_of.ensures)

pub put_table-requires : goal.put_table-requires
unfolding write_verdict
put_table-requires c =
    let a = c.args in
    let size = c.length_written-size.ensures in
    (size, rw size (fits a.image.now a.room.now _ (rw size at c.check_write-verdict.ensures) c.in_default.is))

pub returns : goal.returns
unfolding write_verdict
returns c =
    let a = c.args in
    let size = c.length_written-size.ensures in
    promise-accepted a.image.now a.room.now _ (rw size at c.check_write-verdict.ensures) _ _
    c.in_default.is (rw size at c.written_of-2.ensures) c.put_table.ensures
