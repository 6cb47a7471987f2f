-- `Heap::heap_place` meets its contract: a stored entry is its own holder, any other has the rest of its holder before it.
-- Assumes nothing.
use Rattle.std.proofs.Common.{◌<◌, refl, sym, ◌∙◌, arith}
use Rattle.ibft_build.proofs.EntryLaws.{wanted-at}
use Rattle.ibft_build.proofs.PlaceLaws.{sizes-at, size-gone, holder-below, place-self, place-holder}
use Rattle.ibft_build.proofs.plan.Heap.heap_place.Goals as goal

pub returns-then-self-i-ne0 : goal.returns-then-self-i-ne0
returns-then-self-i-ne0 c =
    let h = c.args.self.now in
    let takes = sizes-at _ _ _ h.sizes_are c.args.i (omega arith) in
    place-self _ _ h.entries.readable _ (omega arith) c.requires.1 (omega arith) _ c.sum_below.ensures.0

pub holder_of-j-requires : goal.holder_of-j-requires
holder_of-j-requires c =
    let p = c.requires in
    let h = c.args.self.now in
    let few : c.args.i < 49 = omega arith in
    (p.0, p.1, size-gone _ _ _ h.entries.readable few (sym (sizes-at _ _ _ h.sizes_are c.args.i few) ∙ c.if-self-i-ne0.false))

pub bounds-self-j : goal.bounds-self-j
bounds-self-j c = holder-below _ _ c.args.self.now.entries.readable _ (omega arith) c.requires.1 _ c.holder_of-j.ensures

pub overflow_sub-spared : goal.overflow_sub-spared
overflow_sub-spared c =
    let h = c.args.self.now in
    let at = c.holder_of-j.ensures in
    let few : c.args.i < 49 = omega arith in
    let below = holder-below _ _ h.entries.readable _ few c.requires.1 _ at in
    (place-holder _ _ h.entries.readable _ few c.requires.1 _ at _ _ _ (sizes-at _ _ _ h.sizes_are _ below)
    (wanted-at _ _ h.entries.wanted_are _ few) refl).0

pub sum_below-requires-2 : goal.sum_below-requires-2
sum_below-requires-2 c =
    omega (arith, holder-below _ _ c.args.self.now.entries.readable _ (omega arith) c.requires.1 _ c.holder_of-j.ensures)

pub returns : goal.returns
returns c =
    let h = c.args.self.now in
    let at = c.holder_of-j.ensures in
    let few : c.args.i < 49 = omega arith in
    let below = holder-below _ _ h.entries.readable _ few c.requires.1 _ at in
    (place-holder _ _ h.entries.readable _ few c.requires.1 _ at _ _ _ (sizes-at _ _ _ h.sizes_are _ below)
    (wanted-at _ _ h.entries.wanted_are _ few) c.sum_below-2.ensures.0).1
