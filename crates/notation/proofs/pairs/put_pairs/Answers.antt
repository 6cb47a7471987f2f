-- `put_pairs` meets its contract: the first byte, and behind it the others. Assumes nothing.
use mathlib.Core.Path.{ap}
use Rattle.text.proofs.PutLaws.{puts-append, puts-same}
use Rattle.notation.specs.Number.{padded}
use Rattle.notation.specs.Pairs.{pairs_text}
use Rattle.notation.proofs.pairs.put_pairs.Goals as goal

pub returns : goal.returns
unfolding pairs_text
returns c =
    puts-append (puts-same c.put_hex_byte-next.ensures (ap (padded 2 16) c.byte_at.ensures))
    c.put_colon_pairs.ensures
