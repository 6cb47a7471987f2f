-- `length_written` meets its contract: the IB part's size counts where it is present. Assumes nothing.
use mathlib.Core.Path.{◌≡◌, sym, ◌∙◌}
use mathlib.Core.Bool.{true, false}
use Rattle.sbft.specs.Layout.{part_of}
use Rattle.sbft.specs.Write.{length_written}
use Rattle.sbft.proofs.write.length_written.Goals as goal

pub returns-then-not-absent : goal.returns-then-not-absent
unfolding length_written part_of
returns-then-not-absent c =
    let absent = c.absent in
    let present : absent.result ≡ false = c.if-not-absent.true in
    rw (c.part_of-ib.ensures, sym absent.ensures ∙ present)

pub returns : goal.returns
unfolding length_written part_of
returns c =
    let absent = c.absent in
    let lacks : absent.result ≡ true = c.if-not-absent.false in
    rw (c.part_of-ib.ensures, sym absent.ensures ∙ lacks)
