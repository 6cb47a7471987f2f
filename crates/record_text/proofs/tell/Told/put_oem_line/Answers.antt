-- `put_oem_line` meets its contract. Assumes nothing.
use mathlib.Core.Path.{ap}
use Rattle.text.proofs.PutLaws.{puts-same}
use Rattle.record_text.specs.Tell.{line_of}
use Rattle.record_text.proofs.TellLaws.{table-id-field, id-field}
use Rattle.record_text.proofs.tell.Told.put_oem_line.Goals as goal

pub returns-then-f-eq1 : goal.returns-then-f-eq1
returns-then-f-eq1 c =
    let a = c.args in
    let f = a.f in
    let line = line_of a.self.now.hide f.kind f.index f.field in
    puts-same c.put_line.ensures (ap line (table-id-field a.self.now.t.now f.field c.if-f-eq1.true _ c.part.ensures.bytes))

pub returns : goal.returns
returns c =
    let a = c.args in
    let f = a.f in
    let line = line_of a.self.now.hide f.kind f.index f.field in
    puts-same c.put_line-2.ensures (ap line (id-field a.self.now.t.now f.field c.if-f-eq1.false _ c.part-2.ensures.bytes))
