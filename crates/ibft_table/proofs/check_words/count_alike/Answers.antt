-- `count_alike` meets its contract: those passed are counted. Assumes nothing.
use Rattle.std.proofs.Common.{sym, arith}
use Rattle.ibft_table.proofs.SeatLaws.{count-clear, count-next, count-one, alike-extra}
use Rattle.ibft_table.specs.Table.{alike}
use Rattle.ibft_layout.specs.Layout.{named_count}
use Rattle.ibft_table.proofs.check_words.count_alike.Goals as goal

pub loop-v-init : goal.loop-v-init
loop-v-init c =
    let a = c.args in
    (omega arith, omega arith, sym (count-clear named_count (alike a.t.now a.w) (λ v h. alike-extra a.t.now a.w v h)))

pub loop-v-preserved : goal.loop-v-preserved
loop-v-preserved c =
    let l = c.loop-v in (
      omega arith,
      omega (arith, count-one c.alike.result),
      count-next _ l.v _ _ _ l.invariant.2 c.alike.ensures c.from-n.ensures,
    )
