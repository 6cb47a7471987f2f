-- `short_numeral` meets its contract: too many digits, or the number that they are. Assumes nothing.
use Rattle.std.proofs.Common.{sym, ◌∙◌, arith}
use Rattle.notation.proofs.GatherLaws.{short-is, short-long}
use Rattle.notation.proofs.address.short_numeral.Goals as goal

pub returns-then-most-s : goal.returns-then-most-s
returns-then-most-s c = let a = c.args in sym (short-long a.base a.most a.max a.s.now (omega arith))

pub returns : goal.returns
returns c = let a = c.args in c.read_numeral.ensures ∙ sym (short-is a.base a.most a.max a.s.now (omega arith))
