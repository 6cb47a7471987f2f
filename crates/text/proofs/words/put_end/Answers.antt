-- `put_end` meets its contract: `none`, or nothing. Assumes nothing.
use Rattle.octets.specs.Counting.{tabulate}
use Rattle.text.proofs.words.put_end.Goals as goal

pub returns-then-first : goal.returns-then-first
unfolding tabulate
returns-then-first c =
    rw c.if-first.true c.put_text.ensures

pub returns : goal.returns
returns c =
    rw c.if-first.false c.put_text-2.ensures
