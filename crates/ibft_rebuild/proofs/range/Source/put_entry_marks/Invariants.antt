use Rattle.std.proofs.Common.{◌≡◌, length}
use Rattle.octets.specs.Octets.{write}
use Rattle.ibft_build_rules.specs.Rebuild.{marks_in}
use Rattle.ibft_rebuild.proofs.range.Source.put_entry_marks.Given as goal

abbrev pub invariant-loop-i : goal.invariant-loop-i
invariant-loop-i l =
    record {
      same_length : length l.range ≡ length l.initial.range;
      wrote : l.range ≡ write l.initial.range l.at (marks_in l.self.starts.now l.self.table.now l.first l.i);
    }
