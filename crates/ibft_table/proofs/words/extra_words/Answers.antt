-- `extra_words` meets its contract: by Control's Length. Assumes nothing.
use native.Mathlib.Omega.{arith}
use Rattle.ibft_table.specs.Table.{extra_words}
use Rattle.ibft_table.proofs.words.extra_words.Goals as goal

pub returns-then-length-lt-LENGTH : goal.returns-then-length-lt-LENGTH
unfolding extra_words
returns-then-length-lt-LENGTH c = (omega arith, omega arith)

pub returns-then-length-gt-LONGEST : goal.returns-then-length-gt-LONGEST
unfolding extra_words
returns-then-length-gt-LONGEST c = (omega arith, omega arith)

pub returns : goal.returns
unfolding extra_words
returns c = (omega arith, omega arith)
