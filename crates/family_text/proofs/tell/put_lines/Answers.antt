-- `put_lines` meets its contract, field by field. Assumes nothing.
use Rattle.std.proofs.Common.{◌≡◌, refl, ap, arith}
use Rattle.octets.specs.Counting.{gather}
use Rattle.text.proofs.PutLaws.{puts-nothing, puts-same, puts-append, puts-length}
use Rattle.family_text.specs.Fields.{field_count}
use Rattle.family_text.specs.Tell.{line_of, lines_text}
use Rattle.family_text.proofs.TellLaws.{gather-more}
use Rattle.family_text.proofs.tell.put_lines.Goals as goal

pub loop-n-init : goal.loop-n-init
unfolding gather
loop-n-init c = (refl, puts-nothing _ _ (omega arith))

pub loop-n-preserved : goal.loop-n-preserved
loop-n-preserved c =
    let a = c.args in
    let l = c.loop-n in
    let more = puts-same (puts-append l.invariant.1 c.put_line-end.ensures) (gather-more (line_of a.family a.t.now) l.n) in
    (puts-length more, more)

pub returns : goal.returns
unfolding lines_text
returns c =
    let a = c.args in
    let l = c.loop-n in
    let all : l.n ≡ field_count a.family = omega (arith, c.field_count-n-end.ensures.0) in
    puts-same l.invariant.1 (ap (gather (line_of a.family a.t.now) 0) all)
