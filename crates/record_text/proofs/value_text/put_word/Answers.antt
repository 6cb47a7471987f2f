-- `put_word` meets its contract: the word of that number. Assumes nothing.
use Rattle.text.proofs.PutLaws.{puts-same}
use Rattle.record_text.proofs.value_text.put_word.Goals as goal

pub returns : goal.returns
returns c = puts-same c.put_text.ensures c.word_at.ensures
