-- `is_there` meets its contract. Assumes nothing.
use Rattle.family_text.proofs.TellLaws.{there-first, there-part}
use Rattle.family_text.proofs.tell.is_there.Goals as goal

pub returns-then-part-eq0 : goal.returns-then-part-eq0
returns-then-part-eq0 c = there-first c.args.t.now _ c.if-part-eq0.true

pub returns : goal.returns
returns c = there-part c.args.t.now _ c.if-part-eq0.false _ c.absent.ensures
