-- `put_string_text` meets its contract: two quotes for the empty string, else the text of its bytes. Assumes nothing.
use native.Mathlib.Omega.{arith}
use Rattle.text.proofs.PutLaws.{puts-same}
use Rattle.notation.proofs.EscapeLaws.{text-empty, text-bytes}
use Rattle.notation.proofs.escape.put_string_text.Goals as goal

pub returns-then-s-eq0 : goal.returns-then-s-eq0
returns-then-s-eq0 c =
    puts-same c.put_text.ensures (text-empty c.args.s.now (omega arith))

pub returns : goal.returns
returns c =
    puts-same c.put_bytes_text.ensures (text-bytes c.args.s.now (omega arith))
