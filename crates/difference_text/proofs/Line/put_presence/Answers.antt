-- `Line::put_presence` meets its contract: past the last field stands the name of the structure itself. Assumes nothing.
use mathlib.Core.Path.{ap}
use mathlib.Core.List.{◌++◌}
use Prim.Native.Nat.{ℕ}
use Rattle.record_text.specs.Fields.{name_of}
use Rattle.text.proofs.PutLaws.{puts-same, puts-append}
use Rattle.difference_text.specs.DifferenceText.{is_absent, only_in, presence_line}
use Rattle.difference_text.proofs.Line.put_presence.Goals as goal

pub returns : goal.returns
unfolding presence_line
returns c =
    let a = c.args in
    puts-same (puts-append c.put_name-end.ensures c.put_only_in.ensures)
    (ap (λ (n : ℕ). name_of a.id a.index n ++ only_in (is_absent a.self.now.reading.left)) c.field_count.ensures.0)
