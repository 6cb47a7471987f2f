use Rattle.std.proofs.Common.{sym, ◌∙◌, arith, eq-eqb, ne_eqb}
use Rattle.octets.specs.Octets.{byte}
use Rattle.octets.proofs.ReadLaws.{zero-step, zero-end}
use Rattle.octets.proofs.read.all_zero.Goals as goal

pub returns-then-b-ne0 : goal.returns-then-b-ne0
returns-then-b-ne0 c =
    let s = c.args.s.now in
    let l = c.loop-b in
    sym (rw (ne_eqb (byte s l.b-index) 0 c.if-b-ne0.true) at (zero-step s l.b-index (omega arith))) ∙ l.invariant

pub loop-b-preserved : goal.loop-b-preserved
loop-b-preserved c =
    let s = c.args.s.now in
    let l = c.loop-b in
    sym (rw (eq-eqb (byte s l.b-index) 0 c.if-b-ne0.false) at (zero-step s l.b-index (omega arith))) ∙ l.invariant

pub returns : goal.returns
returns c = sym (zero-end c.args.s.now c.loop-b.b-index (omega arith)) ∙ c.loop-b.invariant
