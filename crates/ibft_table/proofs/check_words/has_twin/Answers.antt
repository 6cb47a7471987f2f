-- `has_twin` meets its contract: no word below v is one. Assumes nothing.
use Rattle.std.proofs.Common.{sym, ◌∙◌, arith}
use Rattle.octets.proofs.CountingLaws.{any-yes, any-no}
use Rattle.ibft_table.proofs.SeatLaws.{twin-extra}
use Rattle.ibft_table.proofs.check_words.has_twin.Goals as goal

pub loop-v-init : goal.loop-v-init
loop-v-init c = λ j h. twin-extra c.args.t.now c.args.w j h

pub returns-then-twin : goal.returns-then-twin
returns-then-twin c = sym (any-yes _ _ c.loop-v.v (omega arith) (sym c.twin.ensures ∙ c.if-twin.true))

pub returns : goal.returns
returns c = sym (any-no _ _ (λ j h. c.loop-v.invariant j (omega arith)))
