-- `Entries::heap_size` meets its contract: a stored entry takes what it wants, any other nothing. Assumes nothing.
use Rattle.std.proofs.Common.{arith}
use Rattle.ibft_build.proofs.EntryLaws.{wanted-at}
use Rattle.ibft_build.proofs.CoverLaws.{size-stored, size_none}
use Rattle.ibft_build.proofs.plan.Entries.heap_size.Goals as goal

pub returns-then-is_stored : goal.returns-then-is_stored
returns-then-is_stored c =
    let e = c.args.self.now in
    size-stored _ _ _ _ (wanted-at _ _ e.wanted_are c.args.i (omega arith)) e.readable (omega arith) _ c.is_stored.ensures c.if-is_stored.true

pub returns : goal.returns
returns c = size_none _ _ _ _ c.is_stored.ensures c.if-is_stored.false
