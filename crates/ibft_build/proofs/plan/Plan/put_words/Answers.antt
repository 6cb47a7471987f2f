-- `Plan::put_words` meets its contract: the words of the entries passed are written. Assumes nothing.
use Rattle.std.proofs.Common.{◌+◌, arith}
use Rattle.ibft_layout.proofs.LayoutLaws.{first-most}
use Rattle.ibft_build.proofs.StructureLaws.{entries_below, first_next, words-none, words-next, words-done}
use Rattle.ibft_build.proofs.plan.Plan.put_words.Goals as goal

pub overflow_cast-first : goal.overflow_cast-first
overflow_cast-first c = omega (arith, c.first_entry-first.ensures, first-most c.args.k (omega arith))

pub overflow_cast-end : goal.overflow_cast-end
overflow_cast-end c = omega (arith, c.first_entry-end.ensures, first-most (c.args.k + 1) (omega arith))

pub loop-n-init : goal.loop-n-init
loop-n-init c = words-none _ _ _ _ _

pub put_entry_words-requires : goal.put_entry_words-requires
put_entry_words-requires c =
    let p = c.requires in
    let entries = entries_below _ p.1 in
    let next = first_next c.args.k in
    (omega arith, omega arith)

pub loop-n-preserved : goal.loop-n-preserved
loop-n-preserved c =
    let l = c.loop-n in words-next _ _ _ _ _ l.n _ _ (omega arith) l.invariant c.put_entry_words.ensures

pub returns : goal.returns
returns c =
    let l = c.loop-n in
    let next = first_next c.args.k in
    words-done _ _ _ _ _ _ _ _ _ c.first_entry-first.ensures c.first_entry-end.ensures (omega arith) l.invariant
