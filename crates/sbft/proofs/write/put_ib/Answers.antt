-- `put_ib` meets its contract: nothing where the part is absent, else its bytes and zeros right behind them. Assumes nothing.
use mathlib.Core.Path.{sym, ◌∙◌}
use Rattle.octets.proofs.WriteLaws.{write-nothing}
use Rattle.sbft.specs.Layout.{part_of}
use Rattle.sbft.specs.Write.{ib_written}
use Rattle.sbft.proofs.PutLaws.{ib-put}
use Rattle.sbft.proofs.write.put_ib.Goals as goal

pub returns-then-absent : goal.returns-then-absent
unfolding ib_written
returns-then-absent c = sym (rw (sym c.absent.ensures ∙ c.if-absent.true) (write-nothing _ _))

pub returns : goal.returns
unfolding ib_written part_of
returns c =
    let part = c.part_of-place.ensures in
    let bytes = rw part at c.put_same.ensures in
    let zeros = rw part at c.put_zeros.ensures in
    let present = sym c.absent.ensures ∙ c.if-absent.false in
    rw present (ib-put _ _ _ _ bytes zeros)
