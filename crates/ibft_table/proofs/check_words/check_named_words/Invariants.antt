use Rattle.std.proofs.Common.{◌≡◌, ◌-◌}
use Rattle.octets.specs.Counting.{gather}
use Rattle.ibft_layout.specs.Layout.{named_count}
use Rattle.table_header.specs.Verdict.{first_of}
use Rattle.ibft_table.specs.Check.{word_tests}
use Rattle.ibft_table.proofs.check_words.check_named_words.Given as goal

abbrev pub invariant-loop-w : goal.invariant-loop-w
invariant-loop-w l = first_of (gather (word_tests l.table.t.now) l.w (named_count - l.w)) ≡ first_of (gather (word_tests l.table.t.now) 0 named_count)
