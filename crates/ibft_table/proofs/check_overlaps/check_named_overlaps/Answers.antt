-- `check_named_overlaps` meets its contract: word by word, the verdict of the words from w on is that of all. Assumes nothing.
use Rattle.std.proofs.Common.{sym, refl, ◌∙◌, arith}
use Rattle.ibft_layout.specs.Layout.{named_count}
use Rattle.table_header.specs.Verdict.{first_of, Accepted}
use Rattle.ibft_table.specs.Check.{overlap_tests}
use Rattle.table_header.proofs.VerdictLaws.{gather-stop, gather-go, gather-end}
use Rattle.ibft_table.proofs.check_overlaps.check_named_overlaps.Goals as goal

pub returns-then-named_overlaps : goal.returns-then-named_overlaps
unfolding overlap_tests first_of
returns-then-named_overlaps c =
    let r = c.refuse_overlap.ensures in
    let fails = sym c.named_overlaps.ensures ∙ c.if-named_overlaps.true in
    let l = c.loop-w in
    gather-stop (overlap_tests c.args.t.now) named_count l.w (omega arith) _ (r ∙ sym (rw fails)) _ r ∙ l.invariant

pub loop-w-preserved : goal.loop-w-preserved
unfolding overlap_tests first_of
loop-w-preserved c =
    let passes = sym c.named_overlaps.ensures ∙ c.if-named_overlaps.false in
    let l = c.loop-w in
    gather-go (overlap_tests c.args.t.now) named_count l.w (omega arith) Accepted (sym (rw passes)) refl ∙ l.invariant

pub returns : goal.returns
returns c = sym (gather-end (overlap_tests c.args.t.now) named_count c.loop-w.w (omega arith)) ∙ c.loop-w.invariant
