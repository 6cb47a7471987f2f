-- `targets_verdict` meets its contract: one by one, the verdict of those from i on is that of all. Assumes nothing.
use Rattle.std.proofs.Common.{◌≡◌, ℕ, ◌+◌, ◌-◌, sym, ap, ◌∙◌, arith}
use Rattle.octets.specs.Counting.{gather}
use Rattle.ibft_layout.specs.Layout.{extra_nics}
use Rattle.table_header.specs.Verdict.{first_of}
use Rattle.table_header.proofs.VerdictLaws.{returned, gather-stop, gather-go, gather-end}
use Rattle.ibft_build_rules.specs.RecordRange.{nics_given, targets_given, target_image}
use Rattle.ibft_build_rules.specs.Refusals.{index_tests}
use Rattle.ibft_record.proofs.refusals_extras.targets_verdict.Goals as goal

pub loop-i-init : goal.loop-i-init
loop-i-init c =
    let r = c.args.range.now in
    let all : c.targets_given-targets.result - 0 ≡ targets_given r = omega arith in
    ap (λ (n : ℕ). first_of (gather (index_tests r (target_image r) (extra_nics + nics_given r)) 0 n)) all

pub returns-in_err-target_verdict : goal.returns-in_err-target_verdict
returns-in_err-target_verdict c =
    let r = c.args.range.now in
    let l = c.loop-i in
    returned _ _ _ c.from_residual.ensures.1 c.in_err-target_verdict.was ∙ gather-stop (index_tests r (target_image r) (extra_nics + nics_given r)) c.targets_given-targets.result l.i (omega arith) _ c.target_verdict.ensures _ c.in_err-target_verdict.was ∙ l.invariant

pub loop-i-preserved : goal.loop-i-preserved
loop-i-preserved c =
    let r = c.args.range.now in
    let l = c.loop-i in
    gather-go (index_tests r (target_image r) (extra_nics + nics_given r)) c.targets_given-targets.result l.i (omega arith) _ c.target_verdict.ensures c.in_ok-target_verdict.was ∙ l.invariant

pub returns : goal.returns
returns c =
    let r = c.args.range.now in
    let l = c.loop-i in
    sym (gather-end (index_tests r (target_image r) (extra_nics + nics_given r)) c.targets_given-targets.result l.i (omega arith)) ∙ l.invariant
