-- `gather_decimals` meets its contract: the text is its last piece, its first piece fills the room, or that piece is put before
-- the others. Assumes nothing.
use Rattle.std.proofs.Common.{arith}
use Rattle.notation.specs.Address.{dot, decimal}
use Rattle.notation.proofs.GatherLaws.{gathers-last, gathers-stop, gathers-next}
use Rattle.notation.proofs.address.+gather_decimals.Goals as goal

pub returns-then-n-s : goal.returns-then-n-s
returns-then-n-s t c =
    let n = c.index_of-n in
    gathers-last decimal decimal dot c.args.s.now n.result n.ensures.0 (omega arith) c.gather_decimal.ensures

pub returns-then-room-end : goal.returns-then-room-end
returns-then-room-end t c =
    let n = c.index_of-n in
    gathers-stop decimal decimal dot c.args.s.now n.result n.ensures.0 (omega arith) c.gather_decimal-end.ensures (omega arith)

pub returns : goal.returns
returns t c =
    let n = c.index_of-n in
    gathers-next decimal decimal dot c.args.s.now n.result n.ensures.0 (omega arith) c.gather_decimal-end.ensures
    c.gather_decimals.ensures
