-- `rebuild` meets its contract: what the check refuses is refused, what it accepts is rebuilt. Assumes nothing.
use mathlib.Core.Path.{sym, ◌∙◌}
use Rattle.ibft_build_rules.proofs.RebuildLaws.{rebuild-promise, rebuild-refused}
use Rattle.ibft_rebuild.proofs.rebuild.rebuild.Goals as goal

pub returns-in-Ok : goal.returns-in-Ok
returns-in-Ok c =
    let e = c.rebuild_accepted.ensures in
    rebuild-promise _ _ _ _ e.0 e.1

pub returns-in-Err : goal.returns-in-Err
returns-in-Err c = rebuild-refused _ _ (sym c.check.ensures.verdict-is ∙ c.in-Err.is) _
