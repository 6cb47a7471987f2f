use Rattle.std.proofs.Common.{◌≡◌, ◌-◌, ◌≤◌}
use Rattle.octets.specs.Counting.{gather}
use Rattle.ibft_layout.specs.Layout.{named_count}
use Rattle.ibft_table.specs.Table.{word_count}
use Rattle.table_header.specs.Verdict.{first_of}
use Rattle.ibft_table.specs.Check.{word_tests}
use Rattle.ibft_table.proofs.check_words.check_extra_words.Given as goal

abbrev pub invariant-loop-w : goal.invariant-loop-w
invariant-loop-w l =
    (named_count ≤ l.w)
    × (first_of (gather (word_tests l.table.t.now) l.w (word_count l.table.t.now - l.w)) ≡ first_of (gather (word_tests l.table.t.now) named_count (word_count l.table.t.now - named_count)))
