-- `Heap::is_holder` meets its contract: an entry that is not stored, is shorter or is a secret holds none; else the tail
-- decides. Assumes nothing.
use Rattle.std.proofs.Common.{sym, ◌∙◌, arith}
use Rattle.ibft_build.proofs.PlaceLaws.{sizes-at, size-lies, holder-not, holder-tail}
use Rattle.ibft_build.proofs.plan.Heap.is_holder.Goals as goal

pub returns-then-self-j : goal.returns-then-self-j
returns-then-self-j c =
    let h = c.args.self.now in
    holder-not _ _ h.entries.readable _ _ (omega arith) _ (sizes-at _ _ _ h.sizes_are c.args.j (omega arith)) (omega arith)

pub bytes-requires : goal.bytes-requires
bytes-requires c =
    let h = c.args.self.now in
    (c.requires, (size-lies _ _ c.args.j h.entries.readable (omega arith) _ (sizes-at _ _ _ h.sizes_are c.args.j (omega arith)) (omega arith)).given)

pub returns : goal.returns
returns c =
    let h = c.args.self.now in
    holder-tail _ _ h.entries.readable _ _ (omega arith) _ (sizes-at _ _ _ h.sizes_are c.args.j (omega arith)) (omega arith)
    (sym c.may_share.ensures ∙ c.if-not-may_share.false) _ c.bytes.ensures _ c.is_tail.ensures
