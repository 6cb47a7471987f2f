-- `Met::then` meets its contract: one more is counted where the tables differ, and kept where it is the one asked for. Assumes
-- nothing.
use Rattle.std.proofs.Common.{refl, arith, eq-eqb, ne_eqb, rules}
use Rattle.ibft_compare.specs.Walk.{counted}
use Rattle.ibft_compare.proofs.walk.Met.then.Goals as goal

pub returns-then-not-differs : goal.returns-then-not-differs
returns-then-not-differs c = (rw (c.if-not-differs.true) refl, omega arith)

pub returns-then-self : goal.returns-then-self
unfolding counted
returns-then-self c =
    let a = c.args in
    (rw (c.if-not-differs.false, ne_eqb a.self.count a.self.wanted c.if-self.true) (search rules), omega arith)

pub returns : goal.returns
unfolding counted
returns c =
    let a = c.args in
    (rw (c.if-not-differs.false, eq-eqb a.self.count a.self.wanted c.if-self.false) (search rules), omega arith)
