-- `put_record` meets its contract, group by group. Assumes nothing.
use mathlib.Core.Path.{◌≡◌, ap}
use Prim.Native.Nat.{ℕ}
use native.Mathlib.Omega.{arith}
use Rattle.octets.specs.Counting.{gather}
use Rattle.text.proofs.PutLaws.{puts-nothing, puts-within, puts-same, puts-append}
use Rattle.ibft_table.specs.Record.{record_of}
use Rattle.record_text.specs.Tell.{group_text, record_text}
use Rattle.record_text.proofs.TellLaws.{gather-more}
use borrow.Author.Rules.{rules}
use Rattle.record_text.proofs.tell.Told.put_record.Goals as goal

pub loop-g-init : goal.loop-g-init
unfolding gather
loop-g-init c = puts-nothing _ 0 (search rules)

pub put_group-end-requires : goal.put_group-end-requires
put_group-end-requires c = (omega arith, omega (arith, puts-within c.loop-g.invariant))

pub loop-g-preserved : goal.loop-g-preserved
loop-g-preserved c =
    let l = c.loop-g in
    puts-same (puts-append l.invariant c.put_group-end.ensures) (gather-more (group_text c.args.self.now.hide (record_of c.args.self.now.t.now)) l.g)

pub returns : goal.returns
unfolding record_text
returns c =
    let a = c.args in
    let l = c.loop-g in
    let all : l.g ≡ 19 = omega arith in
    puts-same l.invariant (ap (λ (k : ℕ). gather (group_text a.self.now.hide (record_of a.self.now.t.now)) 0 k) all)
