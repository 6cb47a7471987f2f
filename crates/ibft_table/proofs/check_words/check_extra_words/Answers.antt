-- `check_extra_words` meets its contract: word by word, the verdict of the words from w on is that of all extra words. Assumes
-- nothing.
use Rattle.std.proofs.Common.{sym, ◌∙◌, arith}
use Rattle.ibft_table.specs.Table.{word_count}
use Rattle.ibft_table.specs.Check.{word_tests}
use Rattle.table_header.proofs.VerdictLaws.{returned, gather-stop, gather-go, gather-end}
use Rattle.ibft_table.proofs.check_words.check_extra_words.Goals as goal

pub returns-in_err-check_extra : goal.returns-in_err-check_extra
returns-in_err-check_extra c =
    let l = c.loop-w in
    let a = c.args in
    let refused = c.in_err-check_extra.was in
    returned _ _ _ c.from_residual.ensures.1 refused
    ∙ gather-stop (word_tests a.table.t.now) (word_count a.table.t.now) l.w (omega arith) _ c.check_extra.ensures _ refused
    ∙ l.invariant.1

pub loop-w-preserved : goal.loop-w-preserved
loop-w-preserved c =
    let l = c.loop-w in
    let a = c.args in
    (omega arith, gather-go (word_tests a.table.t.now) (word_count a.table.t.now) l.w (omega arith) _ c.check_extra.ensures c.in_ok-check_extra.was ∙ l.invariant.1)

pub returns : goal.returns
returns c =
    let a = c.args in
    sym (gather-end (word_tests a.table.t.now) (word_count a.table.t.now) c.loop-w.w (omega arith)) ∙ c.loop-w.invariant.1
