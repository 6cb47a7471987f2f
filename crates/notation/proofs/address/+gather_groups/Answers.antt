-- `gather_groups` meets its contract: the text is its last piece, its first piece fills the room, or that piece is put before
-- the others. Assumes nothing.
use Rattle.std.proofs.Common.{arith}
use Rattle.notation.specs.Address.{colon, group, last_group, groups}
use Rattle.notation.proofs.GatherLaws.{gathers-last, gathers-stop, gathers-next}
use Rattle.notation.proofs.address.+gather_groups.Goals as goal

pub returns-then-n-s : goal.returns-then-n-s
unfolding groups
returns-then-n-s t c =
    let n = c.index_of-n in
    gathers-last group (last_group c.args.four) colon c.args.s.now n.result n.ensures.0 (omega arith) c.gather_last.ensures

pub returns-then-room-end : goal.returns-then-room-end
unfolding groups
returns-then-room-end t c =
    let n = c.index_of-n in
    gathers-stop group (last_group c.args.four) colon c.args.s.now n.result n.ensures.0 (omega arith) c.gather_group-end.ensures
    (omega arith)

pub returns : goal.returns
unfolding groups
returns t c =
    let n = c.index_of-n in
    gathers-next group (last_group c.args.four) colon c.args.s.now n.result n.ensures.0 (omega arith) c.gather_group-end.ensures
    c.gather_groups.ensures
