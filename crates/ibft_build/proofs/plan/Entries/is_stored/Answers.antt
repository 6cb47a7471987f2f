-- `Entries::is_stored` meets its contract: a missing entry is not, a secret that is present is, any other where no entry covers
-- it. Assumes nothing.
use Rattle.std.proofs.Common.{sym, ◌∙◌, arith}
use Rattle.ibft_build.proofs.EntryLaws.{wanted-at, wanted-given}
use Rattle.ibft_build.proofs.CoverLaws.{stored-missing, stored-secret, stored_is}
use Rattle.ibft_build.proofs.plan.Entries.is_stored.Goals as goal

pub returns-then-self-i-eq0 : goal.returns-then-self-i-eq0
returns-then-self-i-eq0 c =
    stored-missing _ _ _ _ (wanted-at _ _ c.args.self.now.wanted_are c.args.i (omega arith)) (omega arith)

pub returns-then-not-may_share : goal.returns-then-not-may_share
returns-then-not-may_share c =
    let e = c.args.self.now in
    stored-secret _ _ _ _ (wanted-at _ _ e.wanted_are c.args.i (omega arith)) e.readable (omega arith) (omega arith)
    (sym c.may_share.ensures ∙ c.if-not-may_share.true)

pub bytes-requires : goal.bytes-requires
bytes-requires c =
    let want = wanted-at _ _ c.args.self.now.wanted_are c.args.i (omega arith) in (c.requires, wanted-given _ _ (omega arith))

pub returns : goal.returns
returns c =
    let e = c.args.self.now in
    stored_is _ _ _ _ (wanted-at _ _ e.wanted_are c.args.i (omega arith)) e.readable (omega arith) (omega arith)
    (sym c.may_share.ensures ∙ c.if-not-may_share.false) _ c.bytes.ensures _ c.is_covered.ensures
