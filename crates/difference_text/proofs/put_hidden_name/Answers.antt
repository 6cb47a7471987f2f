-- `put_hidden_name` meets its contract: the mark, then the name. Assumes nothing.
use Rattle.octets.specs.Counting.{tabulate}
use Rattle.text.proofs.PutLaws.{puts-append}
use Rattle.difference_text.specs.DifferenceText.{hidden_name}
use Rattle.difference_text.proofs.put_hidden_name.Goals as goal

pub returns : goal.returns
unfolding hidden_name tabulate
returns c =
    puts-append c.put_text-name.ensures c.put_name.ensures
