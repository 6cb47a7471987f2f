-- `images_verdict` meets its contract: slot by slot, the verdict of the slots from k on is that of all. Assumes nothing.
use Rattle.std.proofs.Common.{sym, ◌∙◌, arith}
use Rattle.ibft_layout.specs.Layout.{slot_count}
use Rattle.table_header.proofs.VerdictLaws.{returned, gather-stop, gather-go}
use Rattle.ibft_build_rules.specs.Refusals.{image_tests}
use Rattle.ibft_record.proofs.RefusalLaws.{images-end}
use Rattle.ibft_record.proofs.refusals_images.images_verdict.Goals as goal

pub returns-in_err-image_verdict : goal.returns-in_err-image_verdict
returns-in_err-image_verdict c =
    let l = c.loop-k in
    returned _ _ _ c.from_residual.ensures.1 c.in_err-image_verdict.was ∙ gather-stop (image_tests c.args.range.now) slot_count l.k (omega arith) _ c.image_verdict.ensures _ c.in_err-image_verdict.was ∙ l.invariant

pub loop-k-preserved : goal.loop-k-preserved
loop-k-preserved c =
    let l = c.loop-k in
    gather-go (image_tests c.args.range.now) slot_count l.k (omega arith) _ c.image_verdict.ensures c.in_ok-image_verdict.was ∙ l.invariant

pub returns : goal.returns
returns c =
    let l = c.loop-k in sym (images-end c.args.range.now l.k (omega arith) (omega arith)) ∙ l.invariant
