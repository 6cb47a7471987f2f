use Rattle.std.proofs.Common.{◌≡◌, length}
use Rattle.octets.specs.Counting.{gather}
use Rattle.text.specs.Put.{Puts}
use Rattle.family_text.specs.Tell.{line_of}
use Rattle.family_text.proofs.tell.put_lines.Given as goal

abbrev pub invariant-loop-n : goal.invariant-loop-n
invariant-loop-n l = (length l.room ≡ length l.initial.room) × Puts l.initial.room l.room 0 l.end (gather (line_of l.family l.t) 0 l.n)
