-- `check_named_words` meets its contract: word by word, the verdict of the words from w on is that of all. Assumes nothing.
use Rattle.std.proofs.Common.{sym, ◌∙◌, arith}
use Rattle.ibft_layout.specs.Layout.{named_count}
use Rattle.ibft_table.specs.Check.{word_tests}
use Rattle.table_header.proofs.VerdictLaws.{returned, gather-stop, gather-go, gather-end}
use Rattle.ibft_table.proofs.check_words.check_named_words.Goals as goal

pub returns-in_err-check_named : goal.returns-in_err-check_named
returns-in_err-check_named c =
    let l = c.loop-w in
    let refused = c.in_err-check_named.was in
    returned _ _ _ c.from_residual.ensures.1 refused
    ∙ gather-stop (word_tests c.args.table.t.now) named_count l.w (omega arith) _ c.check_named.ensures _ refused
    ∙ l.invariant

pub loop-w-preserved : goal.loop-w-preserved
loop-w-preserved c =
    let l = c.loop-w in
    gather-go (word_tests c.args.table.t.now) named_count l.w (omega arith) _ c.check_named.ensures c.in_ok-check_named.was ∙ l.invariant

pub returns : goal.returns
returns c = sym (gather-end (word_tests c.args.table.t.now) named_count c.loop-w.w (omega arith)) ∙ c.loop-w.invariant
