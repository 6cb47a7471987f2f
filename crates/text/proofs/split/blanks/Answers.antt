-- `blanks` meets its contract: it is `position`, or the length. Assumes nothing.
use Rattle.std.proofs.Common.{false, rules, tests}
use Rattle.std.proofs.lemmas.Iterator.{YieldsList-from_slice}
use Rattle.std.proofs.lemmas.Iterator.Search.{position_from_yields_List}
use Rattle.text.specs.Split.{blank_is}
use Rattle.text.proofs.SplitLaws.{before-found}
use Rattle.text.proofs.split.blanks.Goals as goal

pub returns : goal.returns
returns c =
    let a = c.args in
    let found = position_from_yields_List (blank_is false) _ _ c.position.result c.position.ensures.ran (YieldsList-from_slice a.s.now cc) (λ x b q k. search (rules, tests)) in
    rw c.unwrap_or.ensures (before-found (blank_is false) a.s.now c.position.result found)
