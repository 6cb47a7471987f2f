-- `strings_verdict` meets its contract: entry by entry, the verdict of the entries from n on is that of all. Assumes nothing.
use Rattle.std.proofs.Common.{sym, ◌∙◌, arith}
use Rattle.ibft_layout.specs.Layout.{entry_count}
use Rattle.table_header.proofs.VerdictLaws.{returned, gather-stop, gather-go}
use Rattle.ibft_build_rules.specs.Refusals.{string_tests}
use Rattle.ibft_record.proofs.RefusalLaws.{strings-end}
use Rattle.ibft_record.proofs.refusals_strings.strings_verdict.Goals as goal

pub returns-in_err-string_verdict : goal.returns-in_err-string_verdict
returns-in_err-string_verdict c =
    let l = c.loop-n in
    returned _ _ _ c.from_residual.ensures.1 c.in_err-string_verdict.was ∙ gather-stop (string_tests c.args.range.now c.args.strings.now) entry_count l.n (omega arith) _ c.string_verdict.ensures _ c.in_err-string_verdict.was ∙ l.invariant

pub loop-n-preserved : goal.loop-n-preserved
loop-n-preserved c =
    let l = c.loop-n in
    gather-go (string_tests c.args.range.now c.args.strings.now) entry_count l.n (omega arith) _ c.string_verdict.ensures c.in_ok-string_verdict.was ∙ l.invariant

pub returns : goal.returns
returns c =
    let l = c.loop-n in sym (strings-end c.args.range.now c.args.strings.now l.n (omega arith) (omega arith)) ∙ l.invariant
