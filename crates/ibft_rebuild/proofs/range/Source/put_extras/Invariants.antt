use Rattle.std.proofs.Common.{◌≡◌, ◌+◌, ◌*◌, ◌≤◌, length}
use Rattle.octets.specs.Counting.{gather}
use Rattle.ibft_build_rules.specs.Rebuild.{extra_in}
use Rattle.ibft_rebuild.specs.Writing.{Wrote}
use Rattle.ibft_rebuild.proofs.range.Source.put_extras.Given as goal

abbrev pub invariant-loop-i : goal.invariant-loop-i
invariant-loop-i l =
    record {
      within : l.end ≤ l.at + 127 * l.i;
      same_length : length l.range ≡ length l.initial.range;
      wrote : Wrote l.initial.range l.at (gather (extra_in l.self.starts.now l.self.table.now) l.slot l.i) l.range l.end;
    }
