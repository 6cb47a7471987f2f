-- `check_extra_overlaps` meets its contract: word by word, the verdict of the words from w on is that of all extra words.
-- Assumes nothing.
use Rattle.std.proofs.Common.{sym, refl, ◌∙◌, arith}
use Rattle.table_header.specs.Verdict.{first_of, Accepted}
use Rattle.ibft_table.specs.Table.{word_count}
use Rattle.ibft_table.specs.Check.{overlap_tests}
use Rattle.table_header.proofs.VerdictLaws.{gather-stop, gather-go, gather-end}
use Rattle.ibft_table.proofs.check_overlaps.check_extra_overlaps.Goals as goal

pub returns-then-extra_overlaps : goal.returns-then-extra_overlaps
unfolding overlap_tests first_of
returns-then-extra_overlaps c =
    let r = c.refuse_overlap.ensures in
    let fails = sym c.extra_overlaps.ensures ∙ c.if-extra_overlaps.true in
    let l = c.loop-w in
    gather-stop (overlap_tests c.args.table.t.now) (word_count c.args.table.t.now) l.w (omega arith) _ (r ∙ sym (rw fails)) _ r ∙ l.invariant.1

pub loop-w-preserved : goal.loop-w-preserved
unfolding overlap_tests first_of
loop-w-preserved c =
    let passes = sym c.extra_overlaps.ensures ∙ c.if-extra_overlaps.false in
    let l = c.loop-w in
    (omega arith, gather-go (overlap_tests c.args.table.t.now) (word_count c.args.table.t.now) l.w (omega arith) Accepted (sym (rw passes)) refl ∙ l.invariant.1)

pub returns : goal.returns
returns c =
    sym (gather-end (overlap_tests c.args.table.t.now) (word_count c.args.table.t.now) c.loop-w.w (omega arith)) ∙ c.loop-w.invariant.1
