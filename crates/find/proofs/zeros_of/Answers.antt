-- `zeros_of` meets its contract: every byte before n is zero, so the first that is not stands at n or behind it. Assumes
-- nothing.
use Rattle.std.proofs.Common.{length, not, sym, ap, arith, rules, eq-eqb, ne_eqb, below_more}
use Rattle.octets.specs.Octets.{byte}
use Rattle.octets.proofs.CountingLaws.{first-is}
use Rattle.find.proofs.zeros_of.Goals as goal

pub returns-then-b-ne0 : goal.returns-then-b-ne0
returns-then-b-ne0 c =
    let memory = c.args.memory.now in
    let n = c.loop-n.n in
    (sym (first-is _ _ n (omega arith) c.loop-n.invariant (λ l. ap not (ne_eqb (byte memory n) 0 c.if-b-ne0.true))), omega arith)

pub loop-n-preserved : goal.loop-n-preserved
loop-n-preserved c =
    below_more _ _ c.loop-n.invariant (ap not (eq-eqb (byte c.args.memory.now c.loop-n.n) 0 c.if-b-ne0.false))

pub returns : goal.returns
returns c =
    let size = length c.args.memory.now in
    (sym (first-is _ _ size (omega arith) (λ k h. c.loop-n.invariant k (omega arith)) (λ l. absurd (omega arith))), omega arith)
