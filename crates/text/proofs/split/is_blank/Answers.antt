-- `is_blank` meets its contract: the three tests are those of the definition. Assumes nothing.
use borrow.Author.Rules.{rules}
use Rattle.text.specs.Split.{is_blank}
use Rattle.text.proofs.split.is_blank.Goals as goal

pub returns : goal.returns
unfolding is_blank
returns c = search rules
