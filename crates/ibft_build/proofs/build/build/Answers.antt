-- `build` meets its contract: refused or not, it ends with the definitions' answer and room, and the promises follow from
-- these.
-- Assumes nothing.
use mathlib.Core.Path.{sym, ◌∙◌}
use Rattle.ibft_build_rules.proofs.PromiseLaws.{promise}
use Rattle.ibft_build.proofs.BuildLaws.{ends-refused}
use Rattle.ibft_build.proofs.build.build.Goals as goal

pub returns-in-Ok : goal.returns-in-Ok
returns-in-Ok c =
    let ends = c.build_contents.ensures in
    promise _ _ _ _ _ ends.answer-is ends.room-is

pub returns-in-Err : goal.returns-in-Err
returns-in-Err c =
    let a = c.args in
    let ends = ends-refused a.range.now a.strings.now a.room.now _
    (sym c.contents_verdict.ensures ∙ c.in-Err.is) in
    promise _ _ _ _ _ ends.answer-is ends.room-is
