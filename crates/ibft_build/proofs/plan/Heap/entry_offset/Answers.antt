-- `Heap::entry_offset` meets its contract: the heap's start and the place in it, which are small. Assumes nothing.
use Rattle.std.proofs.Common.{sym, ◌∙◌, arith}
use Rattle.ibft_build.proofs.EntryLaws.{wanted-at, wanted-given, wanted-missing}
use Rattle.ibft_build.proofs.PlaceLaws.{offset-on, offset-off}
use Rattle.ibft_build.proofs.plan.Heap.entry_offset.Goals as goal

pub heap_place-requires : goal.heap_place-requires
heap_place-requires c =
    let want = wanted-at _ _ c.args.self.now.entries.wanted_are c.args.i (omega arith) in (c.requires, wanted-given _ _ (omega arith))

pub overflow_cast-result : goal.overflow_cast-result
overflow_cast-result c =
    let h = c.args.self.now in
    let want = wanted-at _ _ h.entries.wanted_are c.args.i (omega arith) in
    omega (
      arith,
      (offset-on _ _ _ h.entries.readable (omega arith) (wanted-given _ c.args.i (omega arith)) _ _ h.start_is c.heap_place.ensures).0,
    )

pub overflow_add-result : goal.overflow_add-result
overflow_add-result c =
    let h = c.args.self.now in
    let want = wanted-at _ _ h.entries.wanted_are c.args.i (omega arith) in
    let offset = offset-on _ _ _ h.entries.readable (omega arith) (wanted-given _ c.args.i (omega arith)) _ _ h.start_is c.heap_place.ensures in
    omega (arith, offset.0, offset.1)

pub returns-then-self-i-ne0 : goal.returns-then-self-i-ne0
returns-then-self-i-ne0 c =
    let h = c.args.self.now in
    let want = wanted-at _ _ h.entries.wanted_are c.args.i (omega arith) in
    (offset-on _ _ _ h.entries.readable (omega arith) (wanted-given _ c.args.i (omega arith)) _ _ h.start_is c.heap_place.ensures).2

pub returns : goal.returns
returns c =
    offset-off _ _ _ (wanted-missing _ _ (sym (wanted-at _ _ c.args.self.now.entries.wanted_are c.args.i (omega arith)) ∙ c.if-self-i-ne0.false))
