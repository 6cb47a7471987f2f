-- `least_above` meets its contract: the chain keeps the bytes above `after`, and gives the least of them. Assumes nothing.
use Rattle.std.proofs.Common.{◌≡◌, ◌∙◌, sym, ◌++◌, ◌≤◌, rules, ltb, MatchOption}
use Rattle.std.specs.List.{All, filter}
use Rattle.std.proofs.iter.runs.Made.{chains}
use Rattle.ibft_compare.proofs.NextLaws.{match-option, both-options, next-byte, no-byte}
use Rattle.ibft_compare.proofs.walk.least_above.Goals as goal

pub returns : goal.returns
returns c =
    let a = c.args in
    let run = c.min.ensures.runs.0 in
    let items : run.items ≡ filter (λ x. ltb a.after x) (a.l.now ++ a.r.now) = search (rules, chains) in
    let least : MatchOption c.min.result (run.len ≡ 0) (λ m. All (λ x. m ≤ x) (filter (λ x. ltb a.after x) (a.l.now ++ a.r.now))) = search (rules, chains) in
    match-option c.min.result _ _ _ _
    (λ h. no-byte a.l.now a.r.now run.items a.after 256 items (sym run.long ∙ h.1))
    (λ m h.
    let k = h.0.0.0 in
    next-byte a.l.now a.r.now run.items a.after m k (run.at k) items (rw (← run.long) h.0.0.1) (run.reads k 0 h.0.0.1) h.0.0.2 h.1)
    (both-options c.min.result _ _ _ _ c.min.ensures.runs.3 least)
