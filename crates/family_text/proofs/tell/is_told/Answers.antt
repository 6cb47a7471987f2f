-- `is_told` meets its contract. Assumes nothing.
use Rattle.family_text.proofs.TellLaws.{told-oem, told_part}
use Rattle.family_text.proofs.tell.is_told.Goals as goal

pub returns-then-is_oem : goal.returns-then-is_oem
returns-then-is_oem c =
    told-oem c.args.t.now c.args.field _ c.is_oem.ensures c.if-is_oem.true _ _
    c.bytes_in.ensures c.all_zero.ensures

pub returns : goal.returns
returns c =
    told_part c.args.t.now c.args.field _ c.is_oem.ensures c.if-is_oem.false _ c.is_there.ensures
