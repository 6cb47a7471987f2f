-- `put_digits` meets its contract: n is one digit, or the digits of n / base and one more. Assumes nothing.
use Rattle.std.proofs.Common.{sym, arith}
use Rattle.text.proofs.PutLaws.{puts-same}
use Rattle.notation.proofs.NumberLaws.{digits-small, digits_more, puts_first, puts-last}
use Rattle.notation.proofs.number.+put_digits.Goals as goal

pub returns-then-n-base : goal.returns-then-n-base
returns-then-n-base t c =
    puts-same (puts_first c.put_char.ensures c.digit_byte.ensures) (sym (digits-small c.args.base c.args.n (omega arith)))

pub returns : goal.returns
returns t c =
    puts-same (puts-last c.put_digits-last.ensures c.put_char-2.ensures c.digit_byte-2.ensures)
    (sym (digits_more c.args.base (omega arith) c.args.n (omega arith)))
