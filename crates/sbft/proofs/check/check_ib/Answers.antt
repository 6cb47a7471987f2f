-- `check_ib` meets its contract: no tests where the part is absent, those of its last bytes where it is not. Assumes nothing.
use mathlib.Core.Path.{sym, ◌∙◌}
use Rattle.table_header.specs.Verdict.{first_of}
use Rattle.sbft.specs.Check.{ib_tests}
use Rattle.sbft.proofs.check.check_ib.Goals as goal

pub returns-then-absent : goal.returns-then-absent
unfolding ib_tests first_of
returns-then-absent c = sym (rw (sym c.absent.ensures ∙ c.if-absent.true))

pub returns : goal.returns
unfolding ib_tests
returns c =
    rw (sym c.absent.ensures ∙ c.if-absent.false, ← c.offset_of.ensures) c.check_reserved.ensures
