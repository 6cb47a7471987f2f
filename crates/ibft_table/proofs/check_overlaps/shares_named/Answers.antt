-- `shares_named` meets its contract: no word below v shares a byte, and v does or is w. Assumes nothing.
use Rattle.std.proofs.Common.{sym, ◌∙◌, arith, below_more}
use Rattle.octets.proofs.CountingLaws.{any-yes, any-no}
use Rattle.ibft_table.proofs.CheckLaws.{shares-read}
use Rattle.ibft_table.proofs.check_overlaps.shares_named.Goals as goal

pub returns-then-shares : goal.returns-then-shares
returns-then-shares c =
    let l = c.loop-v in
    let a = c.args in
    let read = shares-read a.t.now l.v a.start a.end _ _ _ c.shares.ensures c.start_at.ensures c.named_end.ensures in
    sym (any-yes _ _ l.v (omega arith) (sym read ∙ c.if-shares.true))

pub loop-v-preserved : goal.loop-v-preserved
loop-v-preserved c =
    let l = c.loop-v in
    let a = c.args in
    let read = shares-read a.t.now l.v a.start a.end _ _ _ c.shares.ensures c.start_at.ensures c.named_end.ensures in
    below_more _ _ l.invariant (sym read ∙ c.if-shares.false)

pub returns : goal.returns
returns c = sym (any-no _ _ (λ j h. c.loop-v.invariant j (omega arith)))
