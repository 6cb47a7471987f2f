-- `put_mode_line` meets its contract. Assumes nothing.
use mathlib.Core.Path.{ap}
use Rattle.text.proofs.PutLaws.{puts-same}
use Rattle.record_text.specs.Tell.{line_of}
use Rattle.record_text.proofs.TellLaws.{mode-field}
use Rattle.record_text.proofs.tell.Told.put_mode_line.Goals as goal

pub returns : goal.returns
returns c =
    let a = c.args in
    let f = a.f in
    let line = line_of a.self.now.hide f.kind f.index f.field in
    puts-same c.put_line.ensures (ap line (mode-field a.self.now.t.now f.field _ c.byte_at.ensures))
