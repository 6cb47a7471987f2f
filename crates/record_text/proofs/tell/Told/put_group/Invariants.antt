use Prim.Native.Nat.{ℕ}
use Rattle.octets.specs.Counting.{gather}
use Rattle.text.specs.Put.{Puts}
use Rattle.ibft_table.specs.Record.{record_of}
use Rattle.record_text.specs.Tell.{field_line}
use Rattle.record_text.proofs.tell.Told.put_group.Given as goal

abbrev pub invariant-loop-field : goal.invariant-loop-field
invariant-loop-field l = Puts l.initial.room l.room l.at l.end (gather (λ (n : ℕ). field_line l.self.hide (record_of l.self.t.now) l.g n) 0 l.field)
