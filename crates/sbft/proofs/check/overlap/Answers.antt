-- `overlap` meets its contract: each test alone settles it. Assumes nothing.
use mathlib.Core.Path.{sym, ◌∙◌}
use mathlib.Core.Bool.{and-false}
use native.Mathlib.Omega.{arith}
use borrow.Author.Tests.{lt-ltb, le-ltb}
use Rattle.sbft.specs.Layout.{offset_of, end_of}
use Rattle.sbft.specs.Check.{overlap}
use Rattle.sbft.proofs.check.overlap.Goals as goal

pub returns-then-absent : goal.returns-then-absent
unfolding overlap
returns-then-absent c = sym (rw (sym c.absent.ensures ∙ c.if-absent.true))

pub returns-then-absent-2 : goal.returns-then-absent-2
unfolding overlap
returns-then-absent-2 c = sym (simp (sym c.absent-2.ensures ∙ c.if-absent-2.true, and-false))

pub returns-then-end_of-offset_of : goal.returns-then-end_of-offset_of
unfolding overlap
returns-then-end_of-offset_of c =
    let a = c.args in
    sym (simp (le-ltb (offset_of a.t.now a.i) (end_of a.t.now a.k) (omega arith), and-false))

pub returns : goal.returns
unfolding overlap
returns c =
    let a = c.args in
    sym (rw (
      sym c.absent.ensures ∙ c.if-absent.false,
      sym c.absent-2.ensures ∙ c.if-absent-2.false,
      lt-ltb (offset_of a.t.now a.i) (end_of a.t.now a.k) (omega arith),
      ← c.offset_of-2.ensures,
      ← c.end_of-2.ensures,
    ))
