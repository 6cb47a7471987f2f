-- `put_hidden` meets its contract: the comment's mark, the name and the words, one behind another. Assumes nothing.
use Rattle.octets.specs.Counting.{tabulate}
use Rattle.text.proofs.PutLaws.{puts-append}
use Rattle.record_text.specs.Tell.{hidden_line}
use Rattle.record_text.proofs.tell.put_hidden.Goals as goal

pub returns : goal.returns
unfolding hidden_line tabulate
returns c =
    puts-append c.put_text-mark.ensures (puts-append c.put_name-name.ensures c.put_text.ensures)
