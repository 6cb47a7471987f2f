-- `put_colon_pair` meets its contract: the colon, and behind it the byte. Assumes nothing.
use Rattle.text.proofs.PutLaws.{puts-append}
use Rattle.notation.proofs.pairs.put_colon_pair.Goals as goal

pub returns : goal.returns
returns c =
    puts-append c.put_char-next.ensures c.put_hex_byte.ensures
