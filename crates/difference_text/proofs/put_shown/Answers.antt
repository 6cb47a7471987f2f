-- `put_shown` meets its contract: its pieces, one behind another. Assumes nothing.
use Rattle.octets.specs.Counting.{tabulate}
use Rattle.text.proofs.PutLaws.{puts-append}
use Rattle.difference_text.specs.DifferenceText.{shown_text}
use Rattle.difference_text.proofs.put_shown.Goals as goal

pub returns : goal.returns
unfolding shown_text tabulate
returns c =
    puts-append c.put_text-number.ensures
    (puts-append c.put_decimal-colon.ensures
    (puts-append c.put_text-bytes.ensures (puts-append c.put_string_text-end.ensures c.put_char.ensures)))
