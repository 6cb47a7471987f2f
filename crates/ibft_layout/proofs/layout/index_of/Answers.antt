-- `index_of` meets its contract, arm by arm. Assumes nothing.
use Rattle.std.proofs.Common.{sym, refl, arith}
use Rattle.octets.specs.Counting.{tabulate}
use Rattle.ibft_layout.specs.Layout.{index_of}
use Rattle.ibft_layout.proofs.LayoutLaws.{rows, index-past}
use Rattle.ibft_layout.proofs.layout.index_of.Goals as goal

pub returns-in-3-to-4 : goal.returns-in-3-to-4
unfolding index_of tabulate
returns-in-3-to-4 c = rows (λ k. 1) index_of 3 2 refl c.args.k (omega arith) (omega arith)

pub returns-in-0-to-2 : goal.returns-in-0-to-2
unfolding index_of tabulate
returns-in-0-to-2 c = rows (λ k. 0) index_of 0 3 refl c.args.k (omega arith) (omega arith)

pub returns-in_default : goal.returns-in_default
unfolding index_of
returns-in_default c = sym (index-past c.args.k (omega arith))
