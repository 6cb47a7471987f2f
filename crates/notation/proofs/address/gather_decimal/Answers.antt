-- `gather_decimal` meets its contract: the number that was read is the byte, which is small. Assumes nothing.
use Rattle.std.proofs.Common.{refl, sym, ap, ◌∙◌, arith}
use Rattle.notation.specs.Address.{one_byte, decimal}
use Rattle.notation.proofs.GatherLaws.{short-le, gathers-some, gathers-none}
use Rattle.notation.proofs.address.gather_decimal.Goals as goal

pub returns-in_default : goal.returns-in_default
unfolding decimal
returns-in_default c = gathers-none (ap one_byte (sym c.short_numeral.ensures ∙ c.in_default.is)) refl refl

pub overflow_cast-v : goal.overflow_cast-v
overflow_cast-v c =
    omega (arith, short-le 10 3 255 _ c.args.s.now (sym c.short_numeral.ensures ∙ c.in-Some.is))

pub returns : goal.returns
unfolding decimal
returns c = gathers-some c.put_char.ensures (ap one_byte (sym c.short_numeral.ensures ∙ c.in-Some.is))
