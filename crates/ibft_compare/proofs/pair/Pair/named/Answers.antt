-- `Pair::named` meets its contract: the slot's Index is the layout's. Assumes nothing.
use Rattle.ibft_compare.specs.Pairs.{named_pair}
use Rattle.ibft_compare.proofs.pair.Pair.named.Goals as goal

pub returns : goal.returns
unfolding named_pair
returns c = rw c.index_of.ensures
