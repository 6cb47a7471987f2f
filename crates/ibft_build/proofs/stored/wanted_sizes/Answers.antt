-- `wanted_sizes` meets its contract: the elements passed are what their entries want, and entries from the limit on are
-- missing. Assumes nothing.
use Rattle.std.proofs.Common.{◌≡◌, arith}
use Rattle.ibft_layout.specs.Layout.{entry_count}
use Rattle.ibft_build.specs.Planning.{wanted_sizes}
use Rattle.ibft_build.proofs.ListLaws.{filled-zeros, filled-done}
use Rattle.ibft_build.proofs.EntryLaws.{limit-most, wanted-past}
use Rattle.ibft_build.proofs.stored.wanted_sizes.Goals as goal

pub loop-n-init : goal.loop-n-init
loop-n-init c = filled-zeros _ entry_count _ c.requires.2

pub loop-n-2-init : goal.loop-n-2-init
loop-n-2-init c =
    let n : c.loop-n.n ≡ 13 = omega arith in (limit-most _ _ c.requires.1, rw n at c.loop-n.invariant)

pub returns : goal.returns
unfolding wanted_sizes
returns c =
    let l = c.loop-n-2 in
    let limit = c.requires.1 in
    filled-done _ _ l.sizes l.n l.invariant.1 (λ j h. wanted-past _ j (omega arith))
