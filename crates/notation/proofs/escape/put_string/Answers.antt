-- `put_string` meets its contract: no string, the empty string, or the bytes of the pieces. Assumes nothing.
use Rattle.std.proofs.Common.{ap, ◌∙◌, arith}
use Rattle.std.specs.Prelude.{unwrap_or}
use Rattle.text.proofs.PutLaws.{puts-same}
use Rattle.notation.specs.Escape.{string_of}
use Rattle.notation.proofs.EscapeLaws.{content-empty, content-bytes}
use Rattle.notation.proofs.escape.put_string.Goals as goal

pub returns-then-unwrap_or-eq0 : goal.returns-then-unwrap_or-eq0
returns-then-unwrap_or-eq0 c =
    let size = c.unwrap_or.ensures ∙ ap (λ o. unwrap_or o 0) c.string_length.ensures in
    puts-same c.put_text.ensures (content-empty (string_of c.args.text.now) (omega arith))

pub returns : goal.returns
returns c =
    let size = c.unwrap_or.ensures ∙ ap (λ o. unwrap_or o 0) c.string_length.ensures in
    c.put_pieces.ensures _ (content-bytes c.args.text.now (omega arith))
