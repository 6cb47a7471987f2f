-- `reason_of` meets its contract. Assumes nothing.
use Rattle.family_text.proofs.EnterLaws.{reason-long, reason-unread}
use Rattle.family_text.proofs.enter.reason_of.Goals as goal

pub returns-then-oem-is_some : goal.returns-then-oem-is_some
returns-then-oem-is_some c = reason-long _ _ _ _ c.string_length.ensures c.is_some.ensures c.if-oem-is_some.true

pub returns : goal.returns
returns c = reason-unread _ _ _ _ c.string_length.ensures c.is_some.ensures c.if-oem-is_some.false
