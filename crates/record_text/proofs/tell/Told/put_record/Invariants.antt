use Rattle.octets.specs.Counting.{gather}
use Rattle.text.specs.Put.{Puts}
use Rattle.ibft_table.specs.Record.{record_of}
use Rattle.record_text.specs.Tell.{group_text}
use Rattle.record_text.proofs.tell.Told.put_record.Given as goal

abbrev pub invariant-loop-g : goal.invariant-loop-g
invariant-loop-g l = Puts l.initial.room l.room 0 l.end (gather (group_text l.self.hide (record_of l.self.t.now)) 0 l.g)
