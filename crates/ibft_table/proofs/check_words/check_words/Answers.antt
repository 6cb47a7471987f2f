-- `check_words` meets its contract: the named words, then the extra ones. Assumes nothing.
use Rattle.std.proofs.Common.{◌∙◌}
use Rattle.ibft_layout.specs.Layout.{named_count}
use Rattle.ibft_table.specs.Table.{word_count}
use Rattle.ibft_table.specs.Check.{word_tests}
use Rattle.table_header.proofs.VerdictLaws.{returned, split-stop, split-go}
use Rattle.ibft_table.proofs.SeatLaws.{words-named}
use Rattle.ibft_table.proofs.check_words.check_words.Goals as goal

pub returns-in_err-check_named_words : goal.returns-in_err-check_named_words
returns-in_err-check_named_words c =
    let t = c.args.table.t.now in
    let refused = c.in_err-check_named_words.was in
    returned _ _ _ c.from_residual.ensures.1 refused
    ∙ split-stop (word_tests t) named_count (word_count t) (words-named t) _ c.check_named_words.ensures _ refused

pub returns : goal.returns
returns c =
    let t = c.args.table.t.now in
    c.check_extra_words.ensures
    ∙ split-go (word_tests t) named_count (word_count t) (words-named t) _ c.check_named_words.ensures c.in_ok-check_named_words.was
