-- `Entries::is_covered_by` meets its contract: a missing or shorter entry covers none, one as long only with a lower number, a
-- secret none; else the tail decides. Assumes nothing.
use Rattle.std.proofs.Common.{length, ap, sym, ◌∙◌, arith}
use Rattle.ibft_build.proofs.EntryLaws.{wanted-at, wanted-given, lies_at}
use Rattle.ibft_build.proofs.CoverLaws.{covered-short, covered-late, covered-secret, covered_tail}
use Rattle.ibft_build.proofs.plan.Entries.is_covered_by.Goals as goal
use Rattle.ibft_build.proofs.plan.Entries.is_covered_by.Goals.{then-wanted-bytes-2+else-i-j, else-wanted-bytes-2}

pub returns-then-wanted-bytes : goal.returns-then-wanted-bytes
returns-then-wanted-bytes c =
    let e = c.args.self.now in covered-short _ _ _ _ _ e.readable (omega arith) _ (wanted-at _ _ e.wanted_are c.args.j (omega arith)) (omega arith)

pub returns-then-i-j : goal.returns-then-i-j
returns-then-i-j c =
    let e = c.args.self.now in
    covered-late _ _ _ _ _ e.readable (omega arith) _ (wanted-at _ _ e.wanted_are c.args.j (omega arith)) (omega arith) (omega arith)

pub returns-then-not-may_share : goal.returns-then-not-may_share
returns-then-not-may_share c = covered-secret _ _ c.args.j _ (sym c.may_share.ensures ∙ c.if-not-may_share.true)

pub bytes-other-requires : goal.bytes-other-requires
bytes-other-requires c =
    let want = wanted-at _ _ c.args.self.now.wanted_are c.args.j (omega arith) in (c.requires, wanted-given _ _ (omega arith))

pub begins_differently-requires : goal.begins_differently-requires
begins_differently-requires c =
    let e = c.args.self.now in
    let lies = lies_at _ _ c.args.j e.readable (omega arith) _ (wanted-at _ _ e.wanted_are c.args.j (omega arith)) (omega arith) in
    omega (arith, lies.length-is, ap length c.bytes-other.ensures)

pub returns-then-begins_differently : goal.returns-then-begins_differently
returns-then-begins_differently c =
    let e = c.args.self.now in
    covered_tail _ _ _ _ _ e.readable (omega arith) _ (wanted-at _ _ e.wanted_are c.args.j (omega arith)) (omega arith)
    (λ l. elim c.if-wanted-bytes-2.branch [ then-wanted-bytes-2+else-i-j w ↦ omega arith | else-wanted-bytes-2 w ↦ omega arith ])
    (sym c.may_share.ensures ∙ c.if-not-may_share.false) _ c.bytes-other.ensures _ (c.begins_differently.ensures c.if-begins_differently.true)

pub returns : goal.returns
returns c =
    let e = c.args.self.now in
    covered_tail _ _ _ _ _ e.readable (omega arith) _ (wanted-at _ _ e.wanted_are c.args.j (omega arith)) (omega arith)
    (λ l. elim c.if-wanted-bytes-2.branch [ then-wanted-bytes-2+else-i-j w ↦ omega arith | else-wanted-bytes-2 w ↦ omega arith ])
    (sym c.may_share.ensures ∙ c.if-not-may_share.false) _ c.bytes-other.ensures _ c.is_tail.ensures
