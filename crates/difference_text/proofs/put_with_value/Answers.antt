-- `put_with_value` meets its contract: name, space and value, one behind another. Assumes nothing.
use Rattle.text.proofs.PutLaws.{puts-append}
use Rattle.difference_text.specs.DifferenceText.{with_value}
use Rattle.difference_text.proofs.put_with_value.Goals as goal

pub returns : goal.returns
unfolding with_value
returns c =
    puts-append c.put_name-space.ensures (puts-append c.put_char-value.ensures c.put_value.ensures)
