use Rattle.std.proofs.Common.{◌≡◌, length}
use Rattle.octets.specs.Counting.{gather}
use Rattle.text.specs.Put.{Puts}
use Rattle.notation.specs.Escape.{text_at}
use Rattle.notation.proofs.escape.put_bytes_text.Given as goal

abbrev pub invariant-loop-i : goal.invariant-loop-i
invariant-loop-i l = (length l.room ≡ length l.initial.room) × Puts l.initial.room l.room l.initial.place l.place (gather (text_at l.s) 0 l.i)
