-- `heap_start` meets its contract: of the words below w, where the last structure ends. Assumes nothing.
use Rattle.std.proofs.Common.{◌≡◌, max, ap, ap₂, ◌∙◌, arith, add-one}
use Rattle.ibft_table.specs.Table.{word_count, end_below, heap_of}
use Rattle.ibft_table.proofs.SeatLaws.{words-named}
use Rattle.ibft_table.proofs.check_entries.heap_start.Goals as goal

pub loop-w-preserved : goal.loop-w-preserved
unfolding end_below
loop-w-preserved c =
    rw (add-one c.loop-w.w) (c.max-heap.ensures ∙ ap₂ max c.loop-w.invariant c.end_if_used.ensures)

pub returns : goal.returns
unfolding heap_of
returns c =
    let t = c.args.table.t.now in
    let all : c.loop-w.w ≡ word_count t = omega (arith, words-named t, c.args.table.words_is) in
    c.loop-w.invariant ∙ ap (end_below t) all
