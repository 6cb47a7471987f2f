-- `put_plain_line` meets its contract: the field stands at its place from the structure's start on. Assumes nothing.
use mathlib.Core.Path.{ap}
use Rattle.text.proofs.PutLaws.{puts-same}
use Rattle.record_text.specs.Tell.{line_of}
use Rattle.record_text.proofs.TellLaws.{line-missing, plain-gone, plain-there}
use Rattle.record_text.proofs.tell.Told.put_plain_line.Goals as goal

pub returns-then-start-eq0 : goal.returns-then-start-eq0
returns-then-start-eq0 c =
    let a = c.args in
    let f = a.f in
    let line = line_of a.self.now.hide f.kind f.index f.field in
    let pre = c.requires in
    puts-same c.put_text.ensures
    (line-missing _ _ _ _ _ (plain-gone a.self.now.t.now _ a.self.now.are_its a.k pre.0 f.kind f.field pre.1 pre.2 _
    c.start_in-start.ensures c.if-start-eq0.true))

pub returns : goal.returns
returns c =
    let a = c.args in
    let f = a.f in
    let line = line_of a.self.now.hide f.kind f.index f.field in
    let pre = c.requires in
    puts-same c.put_line.ensures
    (ap line (plain-there a.self.now.t.now _ a.self.now.are_its a.k pre.0 f.kind f.field pre.1 pre.2 _ c.start_in-start.ensures c.if-start-eq0.false _
    c.field_at-field.ensures _ c.part.ensures.bytes))
