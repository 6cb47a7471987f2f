use Rattle.std.proofs.Common.{◌≡◌, ◌-◌, ◌≤◌, length, drop}
use Rattle.std.specs.Prelude.{option_map}
use Rattle.notation.specs.Escape.{bytes_of, string_of}
use Rattle.notation.proofs.EscapeLaws.{longer}
use Rattle.notation.proofs.escape.string_length.Given as goal

abbrev pub invariant-loop-i : goal.invariant-loop-i
invariant-loop-i l = (l.n ≤ l.i) × (l.i ≤ length l.text) × (longer l.n (bytes_of (drop l.i l.text)) ≡ option_map length (string_of l.text))

abbrev pub decreases-loop-i : goal.decreases-loop-i
decreases-loop-i l = length l.text - l.i
