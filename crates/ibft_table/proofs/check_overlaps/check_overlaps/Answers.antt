-- `check_overlaps` meets its contract: the named words, then the extra ones. Assumes nothing.
use Rattle.std.proofs.Common.{◌∙◌}
use Rattle.ibft_layout.specs.Layout.{named_count}
use Rattle.ibft_table.specs.Table.{word_count}
use Rattle.ibft_table.specs.Check.{overlap_tests}
use Rattle.table_header.proofs.VerdictLaws.{returned, split-stop, split-go}
use Rattle.ibft_table.proofs.SeatLaws.{words-named}
use Rattle.ibft_table.proofs.check_overlaps.check_overlaps.Goals as goal

pub returns-in_err-check_named_overlaps : goal.returns-in_err-check_named_overlaps
returns-in_err-check_named_overlaps c =
    let t = c.args.table.t.now in
    let refused = c.in_err-check_named_overlaps.was in
    returned _ _ _ c.from_residual.ensures.1 refused
    ∙ split-stop (overlap_tests t) named_count (word_count t) (words-named t) _ c.check_named_overlaps.ensures _ refused

pub returns : goal.returns
returns c =
    let t = c.args.table.t.now in
    c.check_extra_overlaps.ensures
    ∙ split-go (overlap_tests t) named_count (word_count t) (words-named t) _
    c.check_named_overlaps.ensures c.in_ok-check_named_overlaps.was
