-- `check_outside` meets its contract: part by part, the verdict of the parts from k on is that of all. Assumes nothing.
use mathlib.Core.Path.{refl, sym, ◌∙◌}
use native.Mathlib.Omega.{arith}
use Rattle.table_header.specs.Verdict.{first_of, Accepted}
use Rattle.table_header.proofs.VerdictLaws.{gather-stop, gather-go, gather-end}
use Rattle.sbft.specs.Layout.{part_count}
use Rattle.sbft.specs.Check.{outside_tests}
use Rattle.sbft.proofs.check.check_outside.Goals as goal

pub returns-then-outside : goal.returns-then-outside
unfolding outside_tests first_of
returns-then-outside c =
    let r = rw c.part_of.ensures at c.refuse.ensures in
    let fails = sym c.outside.ensures ∙ c.if-outside.true in
    let l = c.loop-k in
    gather-stop (outside_tests c.args.t.now) part_count l.k (omega arith) _ (r ∙ sym (rw fails)) _ r ∙ l.invariant

pub loop-k-preserved : goal.loop-k-preserved
unfolding outside_tests first_of
loop-k-preserved c =
    let passes = sym c.outside.ensures ∙ c.if-outside.false in
    let l = c.loop-k in
    gather-go (outside_tests c.args.t.now) part_count l.k (omega arith) Accepted (sym (rw passes)) refl ∙ l.invariant

pub returns : goal.returns
returns c = sym (gather-end (outside_tests c.args.t.now) part_count c.loop-k.k (omega arith)) ∙ c.loop-k.invariant
