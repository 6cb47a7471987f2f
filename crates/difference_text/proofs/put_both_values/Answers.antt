-- `put_both_values` meets its contract: its pieces, one behind another. Assumes nothing.
use Rattle.octets.specs.Counting.{tabulate}
use Rattle.text.proofs.PutLaws.{puts-append}
use Rattle.difference_text.specs.DifferenceText.{both_values}
use Rattle.difference_text.proofs.put_both_values.Goals as goal

pub returns : goal.returns
unfolding both_values tabulate
returns c =
    puts-append c.put_with_value-bar.ensures (puts-append c.put_text-value.ensures c.put_value.ensures)
