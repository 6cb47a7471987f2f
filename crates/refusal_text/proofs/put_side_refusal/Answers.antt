-- `put_side_refusal` meets its contract: the words, the side, a line feed. Assumes nothing.
use Rattle.text.proofs.PutLaws.{puts-append}
use Rattle.refusal_text.specs.RefusalText.{side_refusal_text}
use Rattle.refusal_text.proofs.put_side_refusal.Goals as goal

pub returns : goal.returns
unfolding side_refusal_text
returns c =
    puts-append c.put_words-side_at.ensures (puts-append c.put_next-end.ensures c.put_char.ensures)
