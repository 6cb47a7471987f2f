use Rattle.std.proofs.Common.{◌≡◌, ℕ, length}
use Rattle.octets.specs.Counting.{tabulate}
use Rattle.octets.specs.Octets.{write}
use Rattle.ibft_table.specs.Table.{present_in}
use Rattle.ibft_build_rules.specs.Rebuild.{mark}
use Rattle.ibft_rebuild.proofs.range.Source.put_slot_marks.Given as goal

abbrev pub invariant-loop-k : goal.invariant-loop-k
invariant-loop-k l =
    record {
      same_length : length l.range ≡ length l.initial.range;
      wrote : l.range ≡ write l.initial.range l.at (tabulate (λ (j : ℕ). mark (present_in l.self.starts.now j)) 0 l.k);
    }
