-- `start_in` meets its contract. Assumes nothing.
use mathlib.Core.Path.{◌∙◌}
use Rattle.family_text.proofs.TellLaws.{start_first, start-part}
use Rattle.family_text.proofs.tell.start_in.Goals as goal

pub returns-then-part-eq0 : goal.returns-then-part-eq0
returns-then-part-eq0 c = start_first c.args.t.now _ c.if-part-eq0.true

pub returns : goal.returns
returns c = c.offset_of.ensures ∙ start-part c.args.t.now _ c.if-part-eq0.false
