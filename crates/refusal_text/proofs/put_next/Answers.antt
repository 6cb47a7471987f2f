-- `put_next` meets its contract: the space, and behind it the digits. Assumes nothing.
use Rattle.text.proofs.PutLaws.{puts-append}
use Rattle.refusal_text.proofs.put_next.Goals as goal

pub returns : goal.returns
returns c =
    puts-append c.put_char-digits.ensures c.put_decimal.ensures
