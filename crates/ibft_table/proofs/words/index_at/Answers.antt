-- `index_at` meets its contract: by number, or the Index that stands there. Assumes nothing.
use native.Mathlib.Omega.{arith}
use borrow.Author.Tests.{lt-ltb, le-ltb}
use Rattle.ibft_table.specs.Table.{index_at}
use Rattle.ibft_table.proofs.words.index_at.Goals as goal

pub returns-then-w-lt-NAMED_COUNT : goal.returns-then-w-lt-NAMED_COUNT
unfolding index_at
returns-then-w-lt-NAMED_COUNT c = rw (lt-ltb c.args.w 5 (omega arith)) c.index_of.ensures

pub returns : goal.returns
unfolding index_at
returns c = rw (le-ltb c.args.w 5 (omega arith), ← c.start_at.ensures) c.byte_at.ensures
