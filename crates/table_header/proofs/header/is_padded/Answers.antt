-- `is_padded` meets its contract: no zero byte is met, or what stands behind the first one settles it. Assumes nothing.
use Rattle.std.proofs.Common.{◌≡◌, ◌+◌, ◌-◌, length, take, drop, take_all, length-drop, sym, ◌∙◌, ap, arith}
use Rattle.octets.specs.Octets.{all_zero}
use Rattle.table_header.proofs.HeaderLaws.{padded-byte, padded-zero, padded-end}
use Rattle.table_header.proofs.header.is_padded.Goals as goal

pub returns-then-b-eq0 : goal.returns-then-b-eq0
returns-then-b-eq0 c =
    let l = c.loop-i in
    let s = c.args.s.now in
    let rest : take (length s - (l.i + 1)) (drop (l.i + 1) s) ≡ drop (l.i + 1) s =
    take_all (length s - (l.i + 1)) (drop (l.i + 1) s) (omega (arith, length-drop (l.i + 1) s)) in
    c.all_zero.ensures ∙ ap all_zero rest ∙ sym (padded-zero c.args.s.now l.i (omega arith) c.if-b-eq0.true) ∙ l.invariant

pub loop-i-preserved : goal.loop-i-preserved
loop-i-preserved c =
    let l = c.loop-i in
    sym (padded-byte c.args.s.now l.i (omega arith) c.if-b-eq0.false) ∙ l.invariant

pub returns : goal.returns
returns c = sym (padded-end c.args.s.now c.loop-i.i (omega arith)) ∙ c.loop-i.invariant
