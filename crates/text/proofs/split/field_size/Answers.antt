-- `field_size` meets its contract: it is `position`, or the length. Assumes nothing.
use Rattle.std.proofs.Common.{rules, tests}
use Rattle.std.proofs.lemmas.Iterator.{YieldsList-from_slice}
use Rattle.std.proofs.lemmas.Iterator.Search.{position_from_yields_List}
use Rattle.text.specs.Split.{is_blank}
use Rattle.text.proofs.SplitLaws.{before-found}
use Rattle.text.proofs.split.field_size.Goals as goal

pub returns : goal.returns
returns c =
    let a = c.args in
    let found = position_from_yields_List is_blank _ _ c.position.result c.position.ensures.ran (YieldsList-from_slice a.s.now cc) (λ x b q k. search (rules, tests)) in
    rw c.unwrap_or.ensures (before-found is_blank a.s.now c.position.result found)
