-- `check_extra` meets its contract: what the word's structure starts with, then its flags. Assumes nothing.
use Rattle.std.proofs.Common.{sym, ◌∙◌, arith, le-ltb, eq-eqb, ne_eqb}
use Rattle.ibft_table.specs.Table.{start_at, used_at}
use Rattle.table_header.specs.Verdict.{first_of}
use Rattle.ibft_table.specs.Check.{flag_tests, word_tests}
use Rattle.table_header.proofs.VerdictLaws.{returned, append-stop, append-go}
use Rattle.ibft_table.proofs.check_words.check_extra.Goals as goal

pub returns-then-start_at-eq0 : goal.returns-then-start_at-eq0
unfolding first_of word_tests used_at
returns-then-start_at-eq0 c =
    sym (rw (eq-eqb (start_at c.args.table.t.now c.args.w) 0 (omega arith)))

pub returns-in_err-check_start : goal.returns-in_err-check_start
unfolding word_tests used_at
returns-in_err-check_start c =
    let a = c.args in
    let refused = c.in_err-check_start.was in
    returned _ _ _ c.from_residual.ensures.1 refused
    ∙ rw (ne_eqb (start_at a.table.t.now a.w) 0 (omega arith), le-ltb a.w 5 (omega arith))
    (append-stop _ (flag_tests a.table.t.now a.w) _ c.check_start.ensures _ refused)

pub returns : goal.returns
unfolding word_tests used_at
returns c =
    let a = c.args in
    rw (ne_eqb (start_at a.table.t.now a.w) 0 (omega arith), le-ltb a.w 5 (omega arith))
    (c.check_flags.ensures ∙ append-go _ (flag_tests a.table.t.now a.w) _ c.check_start.ensures c.in_ok-check_start.was)
