-- `begins_differently` meets its contract: a tail would have the same first byte. Assumes nothing.
use Rattle.std.proofs.Common.{sym, arith}
use borrow.Author.Tests.{eqb-false, not-true}
use Rattle.string_heap.proofs.TailsLaws.{is_tail-first}
use Rattle.ibft_build.proofs.stored.begins_differently.Goals as goal

pub returns : goal.returns
returns c on =
    let a = c.args in sym (is_tail-first a.bytes.now a.other.now (omega arith) c.requires (eqb-false _ _ (not-true _ on)))
