-- The numbers from k on are put as far as i. Assumes nothing.
use Rattle.text.specs.Put.{Puts}
use Rattle.notation.specs.AddressSteps.{numbers_text}
use Rattle.notation.proofs.address.put_numbers.Given as goal

abbrev pub invariant-loop-i : goal.invariant-loop-i
invariant-loop-i l = Puts l.fn.room l.room l.at l.end (numbers_text l.a l.four l.k l.i)
