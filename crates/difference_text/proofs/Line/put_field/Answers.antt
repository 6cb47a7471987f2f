-- `Line::put_field` meets its contract: the bytes of both stretches, told one behind the other. Assumes nothing.
use Rattle.text.proofs.PutLaws.{puts-same, puts-append}
use Rattle.difference_text.proofs.LineLaws.{field_told}
use Rattle.difference_text.proofs.Line.put_field.Goals as goal

pub returns : goal.returns
returns c =
    puts-same (puts-append c.put_both_values-end.ensures c.put_char.ensures)
    (field_told _ _ _ _ _ _ c.in_left.ensures c.in_right.ensures)
