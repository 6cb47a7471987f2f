-- `named_overlaps` meets its contract: where word w is used, what is left of the test is what the call answers. Assumes
-- nothing.
use mathlib.Core.Path.{sym, ◌∙◌}
use mathlib.Core.Bool.{and-false}
use native.Mathlib.Omega.{arith}
use borrow.Author.Tests.{eq-eqb, ne_eqb}
use Rattle.octets.proofs.CountingLaws.{any-no, any_same}
use Rattle.ibft_table.specs.Table.{start_at, used_at}
use Rattle.ibft_table.specs.Check.{overlap}
use Rattle.ibft_table.proofs.check_overlaps.named_overlaps.Goals as goal

pub returns-then-start-eq0 : goal.returns-then-start-eq0
unfolding overlap used_at
returns-then-start-eq0 c =
    let a = c.args in
    sym (any-no a.w (overlap a.t.now a.w) (λ j h. simp (eq-eqb (start_at a.t.now a.w) 0 (omega arith), and-false)))

pub returns : goal.returns
unfolding overlap used_at
returns c =
    let a = c.args in
    c.shares_named.ensures
    ∙ any_same _ _ _ (λ v h. rw (c.start_at-start.ensures, c.named_end.ensures, ne_eqb (start_at a.t.now a.w) 0 (omega arith)))
