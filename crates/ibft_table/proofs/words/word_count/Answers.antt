-- `word_count` meets its contract: the named words and the extra ones. Assumes nothing.
use native.Mathlib.Omega.{arith}
use Rattle.ibft_table.specs.Table.{word_count}
use Rattle.ibft_table.proofs.words.word_count.Goals as goal

pub returns : goal.returns
unfolding word_count
returns c = (omega arith, omega arith)
