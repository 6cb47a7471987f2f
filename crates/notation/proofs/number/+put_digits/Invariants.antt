-- `put_digits`, which calls itself on all digits but the last, ends: the number falls. Assumes nothing.
use Rattle.notation.proofs.number.+put_digits.Given as goal

abbrev pub decreases-put_digits : goal.decreases-put_digits
decreases-put_digits l = l.n
