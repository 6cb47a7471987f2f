use Rattle.std.proofs.Common.{◌≡◌, ◌+◌, ◌*◌, ◌≤◌, length}
use Rattle.octets.specs.Counting.{gather}
use Rattle.ibft_build_rules.specs.Rebuild.{image_in}
use Rattle.ibft_rebuild.specs.Writing.{Wrote}
use Rattle.ibft_rebuild.proofs.range.Source.put_images.Given as goal

abbrev pub invariant-loop-k : goal.invariant-loop-k
invariant-loop-k l =
    record {
      within : l.end ≤ l.at + 102 * l.k;
      same_length : length l.range ≡ length l.initial.range;
      wrote : Wrote l.initial.range l.at (gather (image_in l.self.starts.now l.self.table.now) 0 l.k) l.range l.end;
    }
