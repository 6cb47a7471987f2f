-- `Line::put_entry` meets its contract: where the entry is decides. Assumes nothing.
use Rattle.text.proofs.PutLaws.{puts-same}
use Rattle.difference_text.proofs.LineLaws.{entry-left, entry-right, entry-both}
use Rattle.difference_text.proofs.Line.put_entry.Goals as goal

pub returns-then-self-eq0 : goal.returns-then-self-eq0
returns-then-self-eq0 c =
    puts-same c.put_held_line.ensures (entry-left _ _ _ _ _ _ c.if-self-eq0.true c.in_left.ensures)

pub returns-then-self-eq0-2 : goal.returns-then-self-eq0-2
returns-then-self-eq0-2 c =
    puts-same c.put_held_line-then-self-eq0-2.ensures (entry-right _ _ _ _ _ _ c.if-self-eq0.false c.if-self-eq0-2.true c.in_right.ensures)

pub returns : goal.returns
returns c =
    puts-same c.put_differs.ensures (entry-both _ _ _ _ _ c.if-self-eq0.false c.if-self-eq0-2.false)
