-- `put_six` meets its contract: all groups, or those before the run, `::` and those behind it. Assumes nothing.
use native.Mathlib.Omega.{arith}
use Rattle.text.proofs.PutLaws.{puts-same}
use Rattle.notation.proofs.AddressPutLaws.{six-plain, puts-gap}
use Rattle.notation.proofs.address.put_six.Goals as goal

pub returns-then-run-lt2 : goal.returns-then-run-lt2
returns-then-run-lt2 c =
    let a = c.args in
    puts-same c.put_numbers.ensures (six-plain a.a.now a.run (omega arith))

pub returns : goal.returns
returns c =
    let a = c.args in
    puts-gap a.a.now a.run (omega arith) c.put_numbers-end.ensures c.put_text-next.ensures c.put_numbers-2.ensures
