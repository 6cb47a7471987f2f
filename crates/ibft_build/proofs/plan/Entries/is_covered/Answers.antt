-- `Entries::is_covered` meets its contract: none of the entries passed covers it, and entries from the limit on are missing.
-- Assumes nothing.
use Rattle.std.proofs.Common.{sym, ◌∙◌, arith}
use Rattle.octets.proofs.CountingLaws.{any-yes}
use Rattle.ibft_build.proofs.CoverLaws.{covered_none}
use Rattle.ibft_build.proofs.plan.Entries.is_covered.Goals as goal

pub returns-then-is_covered_by : goal.returns-then-is_covered_by
returns-then-is_covered_by c =
    let few = c.args.self.now.few in sym (any-yes _ _ c.loop-j.j (omega arith) (sym c.is_covered_by.ensures ∙ c.if-is_covered_by.true))

pub returns : goal.returns
returns c =
    let limit = c.args.self.now.limit_is in covered_none _ _ _ _ (λ k l. c.loop-j.invariant k (omega arith))
