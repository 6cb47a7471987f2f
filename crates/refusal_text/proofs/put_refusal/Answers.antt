-- `put_refusal` meets its contract: the words, and a line feed behind them. Assumes nothing.
use Rattle.text.proofs.PutLaws.{puts-append}
use Rattle.refusal_text.specs.RefusalText.{refusal_text}
use Rattle.refusal_text.proofs.put_refusal.Goals as goal

pub returns : goal.returns
unfolding refusal_text
returns c =
    puts-append c.put_words-end.ensures c.put_char.ensures
