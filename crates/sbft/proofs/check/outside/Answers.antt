-- `outside` meets its contract: each test alone settles it. Assumes nothing.
use mathlib.Core.Path.{sym, ◌∙◌}
use native.Mathlib.Omega.{arith}
use borrow.Author.Tests.{lt-ltb, le-ltb}
use Rattle.sbft.specs.Layout.{offset_of}
use Rattle.sbft.specs.Check.{outside}
use Rattle.sbft.proofs.check.outside.Goals as goal

pub returns-then-absent : goal.returns-then-absent
unfolding outside
returns-then-absent c = sym (rw (sym c.absent.ensures ∙ c.if-absent.true))

pub returns-then-offset_of-lt-START_END : goal.returns-then-offset_of-lt-START_END
unfolding outside
returns-then-offset_of-lt-START_END c =
    let a = c.args in
    sym (rw (sym c.absent.ensures ∙ c.if-absent.false, lt-ltb (offset_of a.t.now a.k) 48 (omega arith)))

pub returns : goal.returns
unfolding outside
returns c =
    let a = c.args in
    sym (rw (
      sym c.absent.ensures ∙ c.if-absent.false,
      le-ltb (offset_of a.t.now a.k) 48 (omega arith),
      ← c.length_of.ensures,
      ← c.end_of.ensures,
    ))
